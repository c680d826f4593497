-- the events of the lines so far have the ends of the rows, and the others those of before
use Rattle.std.proofs.Common.{◌≡◌, ◌≤◌, ◌+◌, take, if◌then◌else◌}
use Rattle.std.specs.Vec.{vec_len, vec_capacity}
use Rattle.std.specs.List.Sorted.{IsStrictlySortedBy}
use Rattle.hazard_types.specs.declared.hazard.Event.{Event}
use Rattle.hazard_board.specs.Standing.{by_standing, end_in, touched, newly}
use Rattle.hazard_board.specs.Periods.{latest_in}
use Rattle.hazard_board.proofs.standing.set_latest_ends.Given as goal

abbrev pub invariant-loop-place : goal.invariant-loop-place
invariant-loop-place l = record {
  order : IsStrictlySortedBy by_standing l.standing.items;
  ends : (e : Event) → end_in l.standing.items e ≡ (if touched (take l.place l.lines) e then latest_in l.periods e else end_in l.initial.standing.items e);
  capacity : vec_capacity l.initial.standing ≤ vec_capacity l.standing;
  length : vec_len l.standing ≤ vec_len l.initial.standing + newly l.initial.standing.items (take l.place l.lines);
}
