-- the events that are left decide as all of them do
use Rattle.std.proofs.Common.{◌≡◌, drop, fold, Option, if◌then◌else◌}
use Rattle.hazard_types.specs.declared.hazard.Event.{Event}
use Rattle.event_life.specs.Products.{is_open, later_event}
use Rattle.row_index.specs.Steps.{latest_open}
use Rattle.row_index.proofs.index.RowIndex.latest_open.Given as goal

abbrev pub invariant-loop-event : goal.invariant-loop-event
invariant-loop-event l = fold (λ (best : Option Event) (e : Event). if is_open l.self l.t e then later_event best e else best) l.best (drop l.event-index l.events) ≡ latest_open l.self l.t l.events
