-- The standing events of a number are a run.
use Rattle.std.proofs.Common.{◌≡◌, ℕ, ◌-◌, List, length, take, drop, take_all, arith, length-drop}
use Rattle.hazard_board.specs.Standing.{of_number}
use Rattle.hazard_board.specs.declared.standing.Standing.{Standing}
use Rattle.hazard_board.proofs.OpenLemmas.{number_run, number_left}
use Rattle.hazard_board.proofs.open_events.of_number.Goals as goal
use Rattle.hazard_board.proofs.open_events.of_number.Goals.{After-numbers_through-count}

rest : (i : ℕ) (standing : List Standing) → take (length standing - i) (drop i standing) ≡ drop i standing
rest i standing = let count = length-drop i standing in take_all (length standing - i) (drop i standing) (omega (arith, count))

part : (c : After-numbers_through-count) → take c.numbers_through-count.result (take (length c.args.standing.now - c.numbers_before-start.result) (drop c.numbers_before-start.result c.args.standing.now)) ≡ of_number c.args.etn c.args.standing.now
part c = rw (c.numbers_through-count.ensures.value, rest c.numbers_before-start.result c.args.standing.now, c.numbers_before-start.ensures.value) (number_run c.args.etn c.args.standing.now c.requires)

pub numbers_through-count-requires : goal.numbers_through-count-requires
numbers_through-count-requires c = rw (rest c.numbers_before-start.result c.args.standing.now) (number_left c.args.standing.now c.numbers_before-start.result c.requires)

pub returns : goal.returns
returns c = part (goal.at.returns c).After-numbers_through-count
