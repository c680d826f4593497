use Rattle.std.proofs.Common.{◌≡◌, drop, fold, Option, if◌then◌else◌, ◌&&◌, ◌==◌}
use Rattle.hazard_types.specs.Same.{same_hazard}
use Rattle.hazard_types.specs.declared.hazard.Event.{Event}
use Rattle.hazard_types.specs.declared.line.Row.{Row}
use Rattle.event_life.specs.Periods.{keeps_open}
use Rattle.event_life.specs.Products.{latest_open_event, later_event}
use Rattle.event_life.proofs.rows.latest_open_event.Given as goal

-- the rows that are left decide as all of them do
abbrev pub invariant-loop-row : goal.invariant-loop-row
invariant-loop-row l = fold (λ (best : Option Event) (r : Row). if same_hazard r.event.hazard l.hazard && (r.event.etn == l.etn) && keeps_open l.t r then later_event best r.event else best) l.best (drop l.row-index l.rows) ≡ latest_open_event l.rows l.hazard l.etn l.t
