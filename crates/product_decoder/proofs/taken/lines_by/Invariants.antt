use Rattle.std.proofs.Common.{◌≡◌, ◌++◌, drop}
use Rattle.event_life.specs.Products.{lines_of}
use Rattle.product_decoder.specs.ReaderModel.{said_by}
use Rattle.product_decoder.specs.Takings.{IsKnown}
use Rattle.product_decoder.proofs.taken.lines_by.Given as goal

-- what is left makes the list whole, and the event that is known is that of its line
abbrev pub invariant-loop-pair : goal.invariant-loop-pair
invariant-loop-pair l = record {
  lines : l.lines ++ lines_of l.rows l.t (said_by l.office l.class (drop l.pair-index l.pairs)) ≡ lines_of l.rows l.t (said_by l.office l.class l.pairs);
  known : IsKnown l.rows l.t l.known;
}
