use Rattle.std.proofs.Common.{arith}
use Rattle.std.proofs.lemmas.Grind.{common_steps}
use Rattle.hazard_types.proofs.Rows.{code_found, code_missed}
use Rattle.hazard_types.proofs.table.code_of.Goals as goal

pub returns-then-eq-clause-found : goal.returns-then-eq-clause-found
returns-then-eq-clause-found g c = code_found g.T.PartialEq.eq c.requires c.args.rows.now c.args.value _ (grind (arith, common_steps))

pub returns-clause-none : goal.returns-clause-none
returns-clause-none g c = code_missed g.T.PartialEq.eq g.met.T.Eq.laws.refl c.args.rows.now c.args.value (grind (arith, common_steps))
