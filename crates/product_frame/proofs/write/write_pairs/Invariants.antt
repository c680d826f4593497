use Rattle.std.proofs.Common.{◌≡◌, ℕ, ◌<◌, ◌++◌, drop}
use Rattle.std.specs.Prelude.{slice_index_or}
use Rattle.product_frame.specs.Layout.{pairs_text}
use Rattle.product_frame.specs.LineRules.{HasColumns}
use Rattle.product_frame.specs.declared.frame.Pair.{Pair}
use Rattle.product_frame.proofs.write.write_pairs.Given as goal

-- what is left makes the text whole, and the pairs so far have their columns
abbrev pub invariant-loop-pair : goal.invariant-loop-pair
invariant-loop-pair l = record {
  whole : l.out ++ pairs_text (drop l.pair-index l.pair-items) ≡ l.initial.out ++ pairs_text l.pair-items;
  columns : (k : ℕ) (d : Pair) → k < l.pair-index → HasColumns (slice_index_or l.pair-items k d);
}
