-- The rows come to the life, and are counted; without memory there are none of either.
use Rattle.row_index.proofs.EventRows.{rows-emptied}
use Rattle.std.proofs.Common.{◌∙◌, List, ap, subst, sym}
use Rattle.hazard_types.specs.declared.line.Row.{Row}
use Rattle.row_index.specs.Runs.{rows_along}
use Rattle.row_index.specs.Steps.{add_each}
use Rattle.row_index.specs.Zoning.{AreOf}
use Rattle.row_index.proofs.held.EventRows.put.Goals as goal

pub insert_standing-requires-clause-own : goal.insert_standing-requires-clause-own
insert_standing-requires-clause-own c = subst (λ (rows : List Row). AreOf c.args.event.now rows) (sym c.self.view_is) c.requires

pub invariant_of-self : goal.invariant_of-self
invariant_of-self c = c.in-Ok.ensures.are

pub invariant_of-self-in-Err : goal.invariant_of-self-in-Err
invariant_of-self-in-Err c = rows-emptied c.clear.new.self c.clear-in-Err.new.self.entries c.clear.ensures c.clear-in-Err.ensures.empty

pub returns-in-Ok : goal.returns-in-Ok
returns-in-Ok c = c.in-Ok.ensures.rows ∙ ap (add_each (rows_along c.args.event.now c.args.life.now c.args.zones.now)) c.self.view_is
