-- The rows before one stand at the front.
use Rattle.std.proofs.Common.{rules, of_calls, is_lt}
use Rattle.std.proofs.lemmas.Fn.{always_returns_same}
use Rattle.event_life.specs.Products.{by_key}
use Rattle.hazard_board.proofs.Runs.{parted, keeps_lt, at_point}
use Rattle.hazard_board.proofs.Seats.{rows_rise}
use Rattle.hazard_board.proofs.searches.rows_below.Goals as goal

pub returns-clause-value : goal.returns-clause-value
returns-clause-value c =
    let point = c.partition_point.ensures.partitioned (λ r. is_lt (by_key r c.args.row.now)) (always_returns_same _ _ _ (λ a r f k. search (rules, of_calls)))
    (parted (λ r. by_key r c.args.row.now) is_lt keeps_lt c.args.rows.now (rows_rise c.args.row.now c.args.rows.now c.requires)) in
    at_point (λ r. is_lt (by_key r c.args.row.now)) c.args.rows.now c.partition_point.result c.partition_point.ensures.bound point
