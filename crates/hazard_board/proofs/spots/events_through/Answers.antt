-- The spots of events up to one stand at the front.
use Rattle.std.proofs.Common.{rules, of_calls, is_le}
use Rattle.std.proofs.lemmas.Fn.{always_returns_same}
use Rattle.hazard_board.specs.Spots.{by_year, by_spot}
use Rattle.hazard_board.proofs.Runs.{parted, keeps_le, at_point, rises}
use Rattle.hazard_board.proofs.SpotLemmas.{by_year_total, event_never_falls}
use Rattle.hazard_board.proofs.spots.events_through.Goals as goal

pub returns-clause-value : goal.returns-clause-value
returns-clause-value c =
    let point = c.partition_point.ensures.partitioned (λ s. is_le (by_year s.event c.args.e.now)) (always_returns_same _ _ _ (λ a r f k. search (rules, of_calls)))
    (parted (λ s. by_year s.event c.args.e.now) is_le keeps_le c.args.spots.now (rises by_year_total by_spot (λ s. s.event) event_never_falls c.args.e.now c.args.spots.now c.requires)) in
    at_point (λ s. is_le (by_year s.event c.args.e.now)) c.args.spots.now c.partition_point.result c.partition_point.ensures.bound point
