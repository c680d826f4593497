-- No rows are in order, and no event stands.
use Rattle.std.proofs.Common.{◌≤◌, ap, arith, length}
use Rattle.std.specs.Vec.{vec_len, vec_capacity}
use Rattle.std.specs.List.Sorted.{IsStrictlySortedBy}
use Rattle.hazard_board.proofs.PeriodLemmas.{none_counted}
use Rattle.hazard_board.proofs.SpotLemmas.{no_spots}
use Rattle.hazard_board.proofs.StandingLemmas.{none_standing}
use Rattle.hazard_board.proofs.Board.new.Goals as goal

pub invariant_of-result : goal.invariant_of-result
unfolding IsStrictlySortedBy
invariant_of-result c =
    let none = ap length c.new-3.ensures.items in
    let within : vec_len c.new-3.result ≤ vec_capacity c.new-4.result = omega (arith, none, c.new-3.result.ok.0) in
    rw (c.new.ensures, c.new-2.ensures.items, c.new-3.ensures.items, c.new-4.ensures.items) (tt, none_standing, no_spots, none_counted, within)
