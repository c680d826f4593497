-- Rows of zones before one, or up to one, end where a zone begins.
use Rattle.std.proofs.Common.{is_lt, is_le, arith}
use Rattle.hazard_board.proofs.Runs.{keeps_lt, keeps_le}
use Rattle.hazard_board.proofs.PartLemmas.{cut_there}
use Rattle.hazard_board.proofs.shelves.cut_of.Goals as goal

pub returns-then-start-rows : goal.returns-then-start-rows
returns-then-start-rows c = cut_there is_lt keeps_lt _ c.args.rows.now c.rows_before-start.result c.rows_before-start.ensures.value (omega arith) (omega arith)

pub returns-then-end-rows : goal.returns-then-end-rows
returns-then-end-rows c = cut_there is_le keeps_le _ c.args.rows.now c.rows_through-end.result c.rows_through-end.ensures.value (omega arith) (omega arith)
