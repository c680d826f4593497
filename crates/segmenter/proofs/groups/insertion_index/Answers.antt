-- The place is before the first line that comes after this one.
use Rattle.std.proofs.Common.{◌∙◌, sym, ap, not, rules, of_calls}
use Rattle.std.proofs.lemmas.Fn.{always_returns_same}
use Rattle.std.specs.Ordering.{is_lt}
use Rattle.hazard_types.specs.declared.line.SegLine.{SegLine}
use Rattle.segmenter.specs.Groups.{by_line}
use Rattle.segmenter.proofs.PlaceLemmas.{parted, at_point, behind_last}
use Rattle.segmenter.proofs.groups.insertion_index.Goals as goal

pub returns-then-not-is_lt-clause-placed : goal.returns-then-not-is_lt-clause-placed
returns-then-not-is_lt-clause-placed c =
    behind_last c.args.line.now c.args.lines.now c.index-lines-last.result c.requires (sym c.is_empty.ensures ∙ c.if-is_empty.false) c.index-lines-last.is (ap not (ap is_lt (sym c.by_line.ensures) ∙ sym c.is_lt.ensures ∙ c.if-not-is_lt.true))

pub returns-clause-placed : goal.returns-clause-placed
returns-clause-placed c =
    let line = c.args.line.now in
    let point = c.partition_point.ensures.partitioned (λ (other : SegLine). not (is_lt (by_line line other))) (always_returns_same _ _ _ (λ a r f k. search (rules, of_calls))) (parted line c.args.lines.now c.requires) in
    at_point line c.args.lines.now c.partition_point.result c.partition_point.ensures.bound point
