-- A row stands with such a period exactly where the range has a first.
use Rattle.std.proofs.Common.{◌∙◌, ℕ, Bool, List, subst}
use Rattle.std.specs.BTreeMap.Range.{range_contains}
use Rattle.std.specs.declared.ops.Bound.TheVariants.{Included, Unbounded}
use Rattle.std.specs.Map.Iter.{TakesFirst, deref_pair}
use Rattle.row_index.specs.Standings.{by_standing}
use Rattle.row_index.specs.declared.standing.Standing.{Standing}
use Rattle.row_index.proofs.Tests.{any_keys, first_left}
use Rattle.row_index.proofs.standing.any_from.Goals as goal

pub returns : goal.returns
returns c =
    let asked : Standing × ℕ → Bool = λ e. range_contains by_standing (Included c.args.from) Unbounded e.0 in
    let between = c.range.ensures.between tt in
    let step = subst (λ (es : List (Standing × ℕ)). TakesFirst deref_pair es c.next.result c.next.new.self) between c.next.ensures.steps in
    c.is_some.ensures ∙ first_left deref_pair asked c.args.standings.now.entries c.next.new.self c.next.result step ∙ any_keys (range_contains by_standing (Included c.args.from) Unbounded) c.args.standings.now.entries
