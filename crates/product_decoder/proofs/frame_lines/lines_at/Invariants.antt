use Rattle.std.proofs.Common.{◌≡◌, ◌++◌, map, drop}
use Rattle.product_decoder.specs.FrameLines.{line_in}
use Rattle.product_decoder.proofs.frame_lines.lines_at.Given as goal

-- what is left makes the list whole
abbrev pub invariant-loop-pair : goal.invariant-loop-pair
invariant-loop-pair l = l.lines.items ++ map (line_in l.zone) (drop l.pair-index l.said) ≡ map (line_in l.zone) l.said
