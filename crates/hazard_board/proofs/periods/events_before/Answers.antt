-- The counts before stand at the front.
use Rattle.std.proofs.Common.{rules, of_calls, is_lt}
use Rattle.std.proofs.lemmas.Fn.{always_returns_same}
use Rattle.hazard_board.specs.Spots.{by_year}
use Rattle.hazard_board.specs.declared.periods.PeriodCount.{PeriodCount}
use Rattle.hazard_board.proofs.Runs.{parted, keeps_lt, at_point}
use Rattle.hazard_board.proofs.PeriodLemmas.{events_rise}
use Rattle.hazard_board.proofs.periods.events_before.Goals as goal

pub returns-clause-value : goal.returns-clause-value
returns-clause-value c =
    let point = c.partition_point.ensures.partitioned (λ (x : PeriodCount). is_lt (by_year x.event c.args.e.now)) (always_returns_same _ _ _ (λ a r f k. search (rules, of_calls)))
    (parted (λ (x : PeriodCount). by_year x.event c.args.e.now) is_lt keeps_lt c.args.periods.now (events_rise c.args.e.now c.args.periods.now c.requires)) in
    at_point (λ (x : PeriodCount). is_lt (by_year x.event c.args.e.now)) c.args.periods.now c.partition_point.result c.partition_point.ensures.bound point
