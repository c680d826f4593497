-- Such a key is there exactly where the range has a first.
use Rattle.std.proofs.Common.{◌∙◌, List, ap, subst}
use Rattle.std.specs.BTreeMap.Range.{range_contains}
use Rattle.std.specs.List.{list_any}
use Rattle.std.specs.Map.{keys_of}
use Rattle.std.specs.Range.{range_inclusive_start, range_inclusive_end}
use Rattle.std.specs.declared.ops.Bound.TheVariants.{Included}
use Rattle.std.specs.Map.Iter.{TakesFirst, deref_pair}
use Rattle.row_index.proofs.Tests.{any_keys, first_left}
use Rattle.row_index.proofs.keys.any_between.Goals as goal

pub returns : goal.returns
returns g c =
    let cmp = g.K.Ord.cmp in
    let es = c.args.counts.now.entries in
    let step = subst (λ (xs : List _). TakesFirst deref_pair xs c.next.result c.next.new.self) (c.range.ensures.between c.new.ensures.exhausted) c.next.ensures.steps in
    c.is_some.ensures
    ∙ first_left deref_pair (λ e. range_contains cmp (Included (range_inclusive_start c.new.result)) (Included (range_inclusive_end c.new.result)) e.0) es c.next.new.self c.next.result step
    ∙ any_keys (range_contains cmp (Included (range_inclusive_start c.new.result)) (Included (range_inclusive_end c.new.result))) es
    ∙ ap (λ s. list_any (range_contains cmp (Included s) (Included (range_inclusive_end c.new.result))) (keys_of es)) c.new.ensures.start
    ∙ ap (λ s. list_any (range_contains cmp (Included c.args.from) (Included s)) (keys_of es)) c.new.ensures.end
