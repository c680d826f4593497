-- The last line is a product where it is a heading line.
use Rattle.std.proofs.Common.{◌≡◌, ◌∙◌, List, drop, true, false, ap, sym}
use Rattle.product_decoder.specs.Feeding.{has_heading}
use Rattle.product_decoder.specs.Holding.{rest_of}
use Rattle.product_decoder.proofs.Holding.{given_all, last_is, last_is_none}
use Rattle.product_decoder.proofs.held.Held.last_line.Goals as goal

pub returns-then-is_heading_from-clause-taken : goal.returns-then-is_heading_from-clause-taken
returns-then-is_heading_from-clause-taken c =
    let rest = rest_of c.args.self.now in
    let is : has_heading rest ≡ true = ap (λ (bytes : List _). has_heading (drop c.args.self.now.from bytes)) (sym c.deref.ensures.value) ∙ sym c.is_heading_from.ensures ∙ c.if-is_heading_from.true in
    given_all c.give_all.result rest _ (last_is rest c.requires.quiet is) c.give_all.ensures.text c.give_all.ensures.rest

pub returns-clause-taken : goal.returns-clause-taken
returns-clause-taken c =
    let rest = rest_of c.args.self.now in
    let is : has_heading rest ≡ false = ap (λ (bytes : List _). has_heading (drop c.args.self.now.from bytes)) (sym c.deref.ensures.value) ∙ sym c.is_heading_from.ensures ∙ c.if-is_heading_from.false in
    (last_is_none rest c.requires.quiet is, c.clear.ensures.rest)
