-- The zones stand once where they ascend once sorted.
use Rattle.std.proofs.Common.{◌∙◌, List, subst}
use Rattle.std.specs.List.Sorted.{IsPermutation}
use Rattle.hazard_types.specs.Places.{Place}
use Rattle.action_planner.proofs.OnceLemmas.{once_sorted}
use Rattle.action_planner.proofs.fitting.are_distinct_in.Goals as goal

pub returns : goal.returns
returns c =
    c.ascend.ensures ∙ once_sorted c.args.zones.now c.sort_unstable.new.self (subst (λ (zones : List Place). IsPermutation zones c.sort_unstable.new.self) c.copy_from_slice.ensures.after c.sort_unstable.ensures.permutation) c.sort_unstable.ensures.sorted
