-- The rows of a zone stand between those of zones before it and those behind it, by event.
use Rattle.std.proofs.Common.{◌≡◌, ℕ, ◌-◌, List, length, take, drop, take_all, arith, length-drop}
use Rattle.hazard_types.specs.declared.line.Row.{Row}
use Rattle.hazard_board.specs.Board.{slice_of}
use Rattle.hazard_board.proofs.ZoneLemmas.{sorted_left}
use Rattle.hazard_board.proofs.Places.{zone_run, zone_in_order}
use Rattle.hazard_board.proofs.searches.slice_of.Goals as goal
use Rattle.hazard_board.proofs.searches.slice_of.Goals.{After-rows_through-count}

rest : (i : ℕ) (rows : List Row) → take (length rows - i) (drop i rows) ≡ drop i rows
rest i rows = let count = length-drop i rows in take_all (length rows - i) (drop i rows) (omega (arith, count))

slice : (c : After-rows_through-count) → take c.rows_through-count.result (take (length c.args.rows.now - c.rows_before-start.result) (drop c.rows_before-start.result c.args.rows.now)) ≡ slice_of c.args.z.now c.args.rows.now
slice c = rw (c.rows_through-count.ensures.value, rest c.rows_before-start.result c.args.rows.now, c.rows_before-start.ensures.value) (zone_run c.args.z.now c.args.rows.now c.requires)

pub returns-clause-rows : goal.returns-clause-rows
returns-clause-rows c = slice (goal.at.returns-clause-rows c).After-rows_through-count

pub returns-clause-order : goal.returns-clause-order
returns-clause-order c = rw (slice (goal.at.returns-clause-order c).After-rows_through-count) (zone_in_order c.args.z.now c.args.rows.now c.requires)

pub rows_through-count-requires : goal.rows_through-count-requires
rows_through-count-requires c = rw (rest c.rows_before-start.result c.args.rows.now) (sorted_left c.args.rows.now c.rows_before-start.result c.requires)
