use Rattle.std.proofs.Common.{arith}
use Rattle.std.proofs.lemmas.Grind.{common_steps}
use Rattle.hazard_types.proofs.Rows.{value_found, value_missed}
use Rattle.hazard_types.proofs.table.find.Goals as goal

pub returns-then-eq-clause-found : goal.returns-then-eq-clause-found
returns-then-eq-clause-found g c = value_found c.args.rows.now c.args.code.now _ (grind (arith, common_steps))

pub returns-clause-none : goal.returns-clause-none
returns-clause-none g c = value_missed c.args.rows.now c.args.code.now (grind (arith, common_steps))
