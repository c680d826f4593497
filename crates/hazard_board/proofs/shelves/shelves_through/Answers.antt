-- The shelves that begin with zones up to one stand at the front.
use Rattle.std.proofs.Common.{rules, of_calls, is_le}
use Rattle.std.proofs.lemmas.Fn.{always_returns_same}
use Rattle.hazard_types.specs.Places.{by_place}
use Rattle.hazard_types.proofs.OrderLaws.{by_place_total}
use Rattle.hazard_board.specs.Shelves.{by_from}
use Rattle.hazard_board.proofs.Runs.{parted, keeps_le, at_point, rises}
use Rattle.hazard_board.proofs.ShelfLemmas.{from_never_falls}
use Rattle.hazard_board.proofs.shelves.shelves_through.Goals as goal

pub returns-clause-value : goal.returns-clause-value
returns-clause-value c =
    let point = c.partition_point.ensures.partitioned (λ s. is_le (by_place s.from c.args.z.now)) (always_returns_same _ _ _ (λ a r f k. search (rules, of_calls)))
    (parted (λ s. by_place s.from c.args.z.now) is_le keeps_le c.args.later.now (rises by_place_total by_from (λ s. s.from) from_never_falls c.args.z.now c.args.later.now c.requires)) in
    at_point (λ s. is_le (by_place s.from c.args.z.now)) c.args.later.now c.partition_point.result c.partition_point.ensures.bound point
