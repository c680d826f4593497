-- The spots before one stand at the front.
use Rattle.std.proofs.Common.{rules, of_calls, is_lt}
use Rattle.std.proofs.lemmas.Fn.{always_returns_same}
use Rattle.hazard_board.specs.Spots.{by_spot}
use Rattle.hazard_board.proofs.Runs.{parted, keeps_lt, at_point}
use Rattle.hazard_board.proofs.SpotLemmas.{spots_rise}
use Rattle.hazard_board.proofs.spots.spots_below.Goals as goal

pub returns-clause-value : goal.returns-clause-value
returns-clause-value c =
    let point = c.partition_point.ensures.partitioned (λ s. is_lt (by_spot s c.args.spot.now)) (always_returns_same _ _ _ (λ a r f k. search (rules, of_calls)))
    (parted (λ s. by_spot s c.args.spot.now) is_lt keeps_lt c.args.spots.now (spots_rise c.args.spot.now c.args.spots.now c.requires)) in
    at_point (λ s. is_lt (by_spot s c.args.spot.now)) c.args.spots.now c.partition_point.result c.partition_point.ensures.bound point
