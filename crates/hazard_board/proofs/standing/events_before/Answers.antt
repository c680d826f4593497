-- The standing events before one stand at the front.
use Rattle.std.proofs.Common.{rules, of_calls, is_lt}
use Rattle.std.proofs.lemmas.Fn.{always_returns_same}
use Rattle.hazard_types.specs.Orders.{by_event}
use Rattle.hazard_types.proofs.OrderLaws.{by_event_total}
use Rattle.hazard_board.specs.Standing.{by_standing}
use Rattle.hazard_board.proofs.Runs.{parted, keeps_lt, at_point, rises}
use Rattle.hazard_board.proofs.StandingLemmas.{event_rises}
use Rattle.hazard_board.proofs.standing.events_before.Goals as goal

pub returns-clause-value : goal.returns-clause-value
returns-clause-value c =
    let point = c.partition_point.ensures.partitioned (λ s. is_lt (by_event s.event c.args.e.now)) (always_returns_same _ _ _ (λ a r f k. search (rules, of_calls)))
    (parted (λ s. by_event s.event c.args.e.now) is_lt keeps_lt c.args.standing.now (rises by_event_total by_standing (λ s. s.event) event_rises c.args.e.now c.args.standing.now c.requires)) in
    at_point (λ s. is_lt (by_event s.event c.args.e.now)) c.args.standing.now c.partition_point.result c.partition_point.ensures.bound point
