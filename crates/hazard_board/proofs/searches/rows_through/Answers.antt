-- The rows of zones up to one stand at the front.
use Rattle.std.proofs.Common.{rules, of_calls, is_le}
use Rattle.std.proofs.lemmas.Fn.{always_returns_same}
use Rattle.hazard_types.specs.Places.{by_place}
use Rattle.hazard_types.proofs.OrderLaws.{by_place_total}
use Rattle.event_life.specs.Products.{by_key}
use Rattle.hazard_board.proofs.Runs.{parted, keeps_le, at_point, rises}
use Rattle.hazard_board.proofs.Places.{zone_never_falls}
use Rattle.hazard_board.proofs.searches.rows_through.Goals as goal

pub returns-clause-value : goal.returns-clause-value
returns-clause-value c =
    let point = c.partition_point.ensures.partitioned (λ r. is_le (by_place r.zone c.args.z.now)) (always_returns_same _ _ _ (λ a r f k. search (rules, of_calls)))
    (parted (λ r. by_place r.zone c.args.z.now) is_le keeps_le c.args.rows.now (rises by_place_total by_key (λ r. r.zone) zone_never_falls c.args.z.now c.args.rows.now c.requires)) in
    at_point (λ r. is_le (by_place r.zone c.args.z.now)) c.args.rows.now c.partition_point.result c.partition_point.ensures.bound point
