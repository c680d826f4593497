use Rattle.std.proofs.Common.{◌≡◌, ℕ, ◌<◌, ◌++◌, drop}
use Rattle.std.specs.Prelude.{slice_index_or}
use Rattle.product_frame.specs.Layout.{segments_text}
use Rattle.product_frame.specs.LineRules.{ReadsBack}
use Rattle.product_frame.specs.declared.frame.FrameSegment.{FrameSegment}
use Rattle.product_frame.proofs.write.write_segments.Given as goal

-- what is left makes the text whole, and the segments so far read back
abbrev pub invariant-loop-i : goal.invariant-loop-i
invariant-loop-i l = record {
  whole : l.out ++ segments_text l.local (drop l.i l.segments) (drop l.i l.bodies) ≡ l.initial.out ++ segments_text l.local l.segments l.bodies;
  back : (k : ℕ) (d : FrameSegment) → k < l.i → ReadsBack (slice_index_or l.segments k d);
}
