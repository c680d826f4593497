-- the products so far, with those to come, are those that were to come
use Rattle.std.proofs.Common.{◌≡◌, ◌+◌, ◌++◌, ℕ, List, [], cond, false, true, length}
use Rattle.product_decoder.specs.Feeding.{products_in}
use Rattle.product_decoder.proofs.feed.take_each.Given as goal

abbrev pub invariant-loop-more : goal.invariant-loop-more
invariant-loop-more l = record {
  ended : l.feed.ended ≡ l.fn.feed.ended;
  going : l.fn.feed.ended ≡ false → (more : List ℕ) → l.fn.out ++ products_in (l.fn.feed.rest ++ more) ≡ l.out ++ products_in (l.feed.rest ++ more);
  last : l.fn.feed.ended ≡ true → l.fn.out ++ products_in l.fn.feed.rest ≡ l.out ++ products_in l.feed.rest;
  none : l.more ≡ false → l.fn.feed.ended ≡ true → products_in l.feed.rest ≡ [];
}

abbrev pub decreases-loop-more : goal.decreases-loop-more
decreases-loop-more l = cond l.more (length l.feed.rest + 1) 0
