-- The products that the lines of all pieces have are those of their text.
use Rattle.std.proofs.Common.{◌≡◌, ◌∙◌, ◌≤◌, ◌++◌, ℕ, List, [], length, drop, append-nil, ap, sym, arith}
use Rattle.std.proofs.Math.ListN.{drop_of_length-le}
use Rattle.std.specs.List.{concat}
use Rattle.product_decoder.specs.Feeding.{products_in}
use Rattle.product_decoder.proofs.Dividing.{products_told}
use Rattle.product_decoder.proofs.feed.products_of.Goals as goal

pub returns : goal.returns
returns c =
    let pieces = c.args.pieces.now in
    let i = c.loop-piece.piece-index in
    let out = c.loop-piece.out in
    let rest = c.loop-piece.feed.rest in
    let all : length pieces ≤ i = omega arith in
    let gone : drop i pieces ≡ [] = drop_of_length-le pieces all in
    sym (c.in_ok-take_each-2.ensures.last c.end.ensures.ended)
    ∙ ap (λ (xs : List ℕ). out ++ products_in xs) (c.end.ensures.rest ∙ sym (append-nil rest) ∙ ap (λ (more : List (List ℕ)). rest ++ concat more) (sym gone))
    ∙ c.loop-piece.invariant.whole
    ∙ sym (products_told (concat pieces))
