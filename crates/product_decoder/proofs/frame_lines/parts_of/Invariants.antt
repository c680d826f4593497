use Rattle.std.proofs.Common.{◌≡◌, ◌++◌, drop}
use Rattle.row_index.specs.Verdicts.{lines_in}
use Rattle.product_decoder.specs.FrameLines.{lines_in_segments}
use Rattle.product_decoder.proofs.frame_lines.parts_of.Given as goal

-- what is left makes the list whole
abbrev pub invariant-loop-segment : goal.invariant-loop-segment
invariant-loop-segment l = lines_in l.parts.items ++ lines_in_segments l.office l.class l.rows l.t (drop l.segment-index l.segments) ≡ lines_in_segments l.office l.class l.rows l.t l.segments
