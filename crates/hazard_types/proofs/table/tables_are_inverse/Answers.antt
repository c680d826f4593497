use Rattle.hazard_types.proofs.Rows.{read_back, written_back}
use Rattle.hazard_types.proofs.table.tables_are_inverse.Goals as goal

pub returns-clause-read_back : goal.returns-clause-read_back
returns-clause-read_back g c rows code v one table h = read_back _ one g.met.T.Eq.laws.refl rows code v table h

pub returns-clause-written_back : goal.returns-clause-written_back
returns-clause-written_back g c rows code v one table h = written_back _ one rows code v table h
