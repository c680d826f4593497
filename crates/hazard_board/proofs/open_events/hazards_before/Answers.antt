-- The standing events of hazards before one stand at the front.
use Rattle.std.proofs.Common.{rules, of_calls, is_lt}
use Rattle.std.proofs.lemmas.Fn.{always_returns_same}
use Rattle.hazard_types.specs.Orders.{by_hazard}
use Rattle.hazard_types.proofs.OrderLaws.{by_hazard_total}
use Rattle.hazard_board.specs.Standing.{by_standing}
use Rattle.hazard_board.proofs.Runs.{parted, keeps_lt, at_point, rises}
use Rattle.hazard_board.proofs.OpenLemmas.{hazard_never_falls}
use Rattle.hazard_board.proofs.open_events.hazards_before.Goals as goal

pub returns-clause-value : goal.returns-clause-value
returns-clause-value c =
    let point = c.partition_point.ensures.partitioned (λ s. is_lt (by_hazard s.event.hazard c.args.h.now)) (always_returns_same _ _ _ (λ a r f k. search (rules, of_calls)))
    (parted (λ s. by_hazard s.event.hazard c.args.h.now) is_lt keeps_lt c.args.standing.now (rises by_hazard_total by_standing (λ s. s.event.hazard) hazard_never_falls c.args.h.now c.args.standing.now c.requires)) in
    at_point (λ s. is_lt (by_hazard s.event.hazard c.args.h.now)) c.args.standing.now c.partition_point.result c.partition_point.ensures.bound point
