-- The rows of the line before are those of its event.
use Rattle.std.proofs.Common.{Option, subst, rules}
use Rattle.hazard_types.specs.declared.hazard.Event.{Event}
use Rattle.hazard_types.proofs.Equality.{event_one}
use Rattle.row_index.specs.Holding.{AreNear, AreRowsOf}
use Rattle.row_index.proofs.index.RowIndex.rows_near.Goals as goal

pub returns-then-eq : goal.returns-then-eq
returns-then-eq c =
    subst (λ (e : Event). AreRowsOf c.args.self.now e c.args.rows) (event_one c.in-Some.before c.args.event.now (search rules))
    (subst (λ (k : Option Event). AreNear c.args.self.now k c.args.rows) c.in-Some.is c.requires)
