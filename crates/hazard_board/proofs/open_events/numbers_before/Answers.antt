-- Those of numbers before one stand at the front.
use Rattle.std.proofs.Common.{rules, of_calls, is_lt}
use Rattle.std.proofs.lemmas.Fn.{always_returns_same}
use Rattle.std.specs.Ordering.{nat_cmp}
use Rattle.std.proofs.lemmas.Cmp.{nat_cmp_total}
use Rattle.hazard_board.specs.Standing.{by_number}
use Rattle.hazard_board.proofs.Runs.{parted, keeps_lt, at_point, rises}
use Rattle.hazard_board.proofs.OpenLemmas.{number_never_falls}
use Rattle.hazard_board.proofs.open_events.numbers_before.Goals as goal

pub returns-clause-value : goal.returns-clause-value
returns-clause-value c =
    let point = c.partition_point.ensures.partitioned (λ s. is_lt (nat_cmp s.event.etn c.args.etn)) (always_returns_same _ _ _ (λ a r f k. search (rules, of_calls)))
    (parted (λ s. nat_cmp s.event.etn c.args.etn) is_lt keeps_lt c.args.standing.now (rises nat_cmp_total by_number (λ s. s.event.etn) number_never_falls c.args.etn c.args.standing.now c.requires)) in
    at_point (λ s. is_lt (nat_cmp s.event.etn c.args.etn)) c.args.standing.now c.partition_point.result c.partition_point.ensures.bound point
