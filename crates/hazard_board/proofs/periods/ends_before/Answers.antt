-- The counts before stand at the front.
use Rattle.std.proofs.Common.{rules, of_calls, is_lt}
use Rattle.std.proofs.lemmas.Fn.{always_returns_same}
use Rattle.hazard_board.specs.Periods.{by_event_end}
use Rattle.hazard_board.specs.declared.periods.PeriodCount.{PeriodCount}
use Rattle.hazard_board.proofs.Runs.{parted, keeps_lt, at_point}
use Rattle.hazard_board.proofs.PeriodLemmas.{ends_rise}
use Rattle.hazard_board.proofs.periods.ends_before.Goals as goal

pub returns-clause-value : goal.returns-clause-value
returns-clause-value c =
    let point = c.partition_point.ensures.partitioned (λ (x : PeriodCount). is_lt (by_event_end x c.args.key.now)) (always_returns_same _ _ _ (λ a r f k. search (rules, of_calls)))
    (parted (λ (x : PeriodCount). by_event_end x c.args.key.now) is_lt keeps_lt c.args.periods.now (ends_rise c.args.key.now c.args.periods.now c.requires)) in
    at_point (λ (x : PeriodCount). is_lt (by_event_end x c.args.key.now)) c.args.periods.now c.partition_point.result c.partition_point.ensures.bound point
