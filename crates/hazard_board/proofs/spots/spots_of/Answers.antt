-- The spots of an event are a run.
use Rattle.std.proofs.Common.{◌≡◌, ℕ, ◌-◌, List, length, take, drop, take_all, arith, length-drop}
use Rattle.hazard_board.specs.Spots.{by_spot}
use Rattle.hazard_board.specs.declared.spots.Spot.{Spot}
use Rattle.hazard_board.proofs.OpenLemmas.{left_sorted}
use Rattle.hazard_board.proofs.SpotLemmas.{event_run}
use Rattle.hazard_board.proofs.spots.spots_of.Goals as goal

rest : (i : ℕ) (spots : List Spot) → take (length spots - i) (drop i spots) ≡ drop i spots
rest i spots = let count = length-drop i spots in take_all (length spots - i) (drop i spots) (omega (arith, count))

pub events_through-count-requires : goal.events_through-count-requires
events_through-count-requires c = rw (rest c.events_before-start.result c.args.spots.now) (left_sorted by_spot c.args.spots.now c.events_before-start.result c.requires)

pub returns : goal.returns
returns c = rw (c.events_through-count.ensures.value, rest c.events_before-start.result c.args.spots.now, c.events_before-start.ensures.value) (event_run c.args.e.now c.args.spots.now c.requires)
