-- The standing events of a hazard are a run, by number, then year.
use Rattle.std.proofs.Common.{◌≡◌, ℕ, ◌-◌, List, length, take, drop, take_all, arith, length-drop}
use Rattle.hazard_board.specs.Standing.{of_hazard}
use Rattle.hazard_board.specs.declared.standing.Standing.{Standing}
use Rattle.hazard_board.proofs.OpenLemmas.{hazard_run, hazard_left, hazard_by_number}
use Rattle.hazard_board.proofs.open_events.of_hazard.Goals as goal
use Rattle.hazard_board.proofs.open_events.of_hazard.Goals.{After-hazards_through-count}

rest : (i : ℕ) (standing : List Standing) → take (length standing - i) (drop i standing) ≡ drop i standing
rest i standing = let count = length-drop i standing in take_all (length standing - i) (drop i standing) (omega (arith, count))

part : (c : After-hazards_through-count) → take c.hazards_through-count.result (take (length c.args.standing.now - c.hazards_before-start.result) (drop c.hazards_before-start.result c.args.standing.now)) ≡ of_hazard c.args.h.now c.args.standing.now
part c = rw (c.hazards_through-count.ensures.value, rest c.hazards_before-start.result c.args.standing.now, c.hazards_before-start.ensures.value) (hazard_run c.args.h.now c.args.standing.now c.requires)

pub hazards_through-count-requires : goal.hazards_through-count-requires
hazards_through-count-requires c = rw (rest c.hazards_before-start.result c.args.standing.now) (hazard_left c.args.standing.now c.hazards_before-start.result c.requires)

pub returns-clause-events : goal.returns-clause-events
returns-clause-events c = part (goal.at.returns-clause-events c).After-hazards_through-count

pub returns-clause-order : goal.returns-clause-order
returns-clause-order c = rw (part (goal.at.returns-clause-order c).After-hazards_through-count) (hazard_by_number c.args.h.now c.args.standing.now c.requires)
