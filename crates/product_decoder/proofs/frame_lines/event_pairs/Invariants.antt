use Rattle.std.proofs.Common.{◌≡◌, ◌++◌, drop}
use Rattle.product_decoder.specs.FrameLines.{event_pairs}
use Rattle.product_decoder.specs.Takings.{IsKnown}
use Rattle.product_decoder.proofs.frame_lines.event_pairs.Given as goal

-- what is left makes the list whole, and the event that is known is that of its line
abbrev pub invariant-loop-pair : goal.invariant-loop-pair
invariant-loop-pair l = record {
  said : l.said ++ event_pairs l.office l.class l.rows l.t (drop l.pair-index l.pairs) ≡ event_pairs l.office l.class l.rows l.t l.pairs;
  known : IsKnown l.rows l.t l.known;
}
