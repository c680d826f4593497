-- the products so far, with those of what is kept and of the pieces that are left, are those of all pieces
use Rattle.std.proofs.Common.{◌≡◌, ◌++◌, false, drop}
use Rattle.std.specs.List.{concat}
use Rattle.product_decoder.specs.Feeding.{products_in}
use Rattle.product_decoder.proofs.feed.products_of.Given as goal

abbrev pub invariant-loop-piece : goal.invariant-loop-piece
invariant-loop-piece l = record {
  going : l.feed.ended ≡ false;
  whole : l.out ++ products_in (l.feed.rest ++ concat (drop l.piece-index l.pieces)) ≡ products_in (concat l.pieces);
}
