-- The rows before that of an event in a zone stand at the front.
use Rattle.std.proofs.Common.{rules, of_calls, is_lt}
use Rattle.std.proofs.lemmas.Fn.{always_returns_same}
use Rattle.hazard_board.specs.Board.{compare_row_key}
use Rattle.hazard_board.proofs.KeySearch.{keys_rise}
use Rattle.hazard_board.proofs.Runs.{parted, keeps_lt, at_point}
use Rattle.hazard_board.proofs.searches.keys_below.Goals as goal

pub returns-clause-value : goal.returns-clause-value
returns-clause-value c =
    let point = c.partition_point.ensures.partitioned (λ r. is_lt (compare_row_key c.args.e.now c.args.z.now r)) (always_returns_same _ _ _ (λ a r f k. search (rules, of_calls)))
    (parted (λ r. compare_row_key c.args.e.now c.args.z.now r) is_lt keeps_lt c.args.rows.now (keys_rise c.args.e.now c.args.z.now c.args.rows.now c.requires)) in
    at_point (λ r. is_lt (compare_row_key c.args.e.now c.args.z.now r)) c.args.rows.now c.partition_point.result c.partition_point.ensures.bound point
