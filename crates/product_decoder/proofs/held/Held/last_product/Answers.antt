-- The last product ends before the last line where that is a heading line.
use Rattle.std.proofs.Common.{◌≡◌, ◌∙◌, List, [], ◌∷◌, true, false, drop, ap, sym, subst}
use Rattle.std.specs.List.{slice_range}
use Rattle.std.proofs.lemmas.List.Folds.{drop_split}
use Rattle.product_decoder.specs.Feeding.{has_heading, products_in}
use Rattle.product_decoder.specs.Holding.{rest_of}
use Rattle.product_decoder.proofs.Holding.{given_all, given_front, front_less, front_given, all_given}
use Rattle.product_decoder.proofs.held.Held.last_product.Goals as goal

pub returns-then-is_heading_from-clause-taken : goal.returns-then-is_heading_from-clause-taken
returns-then-is_heading_from-clause-taken c =
    let h = c.args.self.now in
    let lines = slice_range h.bytes.items h.from h.seen in
    let line = drop h.seen h.bytes.items in
    let is : has_heading line ≡ true = ap (λ (bytes : List _). has_heading (drop c.args.self.now.seen bytes)) (sym c.deref.ensures.value) ∙ sym c.is_heading_from.ensures ∙ c.if-is_heading_from.true in
    given_front c.take_until_last_line.result (rest_of h) lines line _ (front_less (rest_of h) lines line (drop_split h.bytes.items h.from h.seen c.requires.holds.from_seen) (c.requires.holds.one c.requires.headed)) (ap products_in (drop_split h.bytes.items h.from h.seen c.requires.holds.from_seen) ∙ front_given lines line (c.requires.holds.one c.requires.headed) c.requires.quiet is) c.take_until_last_line.ensures.text c.take_until_last_line.ensures.rest

pub returns-clause-taken : goal.returns-clause-taken
returns-clause-taken c =
    let h = c.args.self.now in
    let lines = slice_range h.bytes.items h.from h.seen in
    let line = drop h.seen h.bytes.items in
    let is : has_heading line ≡ false = ap (λ (bytes : List _). has_heading (drop c.args.self.now.seen bytes)) (sym c.deref.ensures.value) ∙ sym c.is_heading_from.ensures ∙ c.if-is_heading_from.false in
    let split = drop_split h.bytes.items h.from h.seen c.requires.holds.from_seen in
    given_all c.give_all.result (rest_of h) _ (subst (λ (all : List _). products_in all ≡ all ∷ products_in []) (sym split) (all_given lines line (c.requires.holds.one c.requires.headed) c.requires.quiet is)) c.give_all.ensures.text c.give_all.ensures.rest
