-- the standing events that are left decide as all of them do
use Rattle.std.proofs.Common.{◌≡◌, Option, fold, drop, if◌then◌else◌}
use Rattle.hazard_types.specs.declared.hazard.Event.{Event}
use Rattle.event_life.specs.Periods.{is_not_long_past}
use Rattle.event_life.specs.Products.{later_event}
use Rattle.hazard_board.specs.Standing.{last_open}
use Rattle.hazard_board.specs.declared.standing.Standing.{Standing}
use Rattle.hazard_board.proofs.open_events.last_open.Given as goal

abbrev pub invariant-loop-s : goal.invariant-loop-s
invariant-loop-s l = fold (λ (best : Option Event) (s : Standing). if is_not_long_past s.latest l.t then later_event best s.event else best) l.best (drop l.s-index l.standing) ≡ last_open l.t l.standing
