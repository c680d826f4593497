-- The counts before a hazard and year stand at the front.
use Rattle.std.proofs.Common.{rules, of_calls, is_lt}
use Rattle.std.proofs.lemmas.Fn.{always_returns_same}
use Rattle.event_numbers.specs.Counts.{cmp_key}
use Rattle.event_numbers.proofs.PlaceLemmas.{parted}
use Rattle.event_numbers.proofs.counts_before.Goals as goal

pub returns-clause-point : goal.returns-clause-point
returns-clause-point c =
    c.partition_point.ensures.partitioned (λ count. is_lt (cmp_key c.args.h.now c.args.year count)) (always_returns_same _ _ _ (λ a r f k. search (rules, of_calls)))
    (parted c.args.h.now c.args.year c.args.counted.now c.requires)
