-- What the scan finds is given up to the next heading line.
use Rattle.std.proofs.Common.{◌∙◌, List, ℕ, length, drop, Some, refl, ap, sym, subst}
use Rattle.std.specs.List.{slice_range}
use Rattle.product_decoder.specs.Feeding.{IsHeld, IsFound, IsNotFound}
use Rattle.product_decoder.specs.Holding.{Moves, rest_of}
use Rattle.product_decoder.proofs.Holding.{advance_moves, advance_held, advance_one}
use Rattle.product_decoder.proofs.held.Held.advance.Goals as goal

pub returns-in_ok-text-in-Heading-clause-moves : goal.returns-in_ok-text-in-Heading-clause-moves
returns-in_ok-text-in-Heading-clause-moves c =
    let h = c.args.self.now in
    let bytes = h.bytes.items in
    let found = subst (λ (xs : List ℕ). IsFound xs h.seen c.in-Heading.at c.in-Heading.end) c.deref.ensures.value c.in-Heading.ensures in
    let text_is = c.in_ok-text-in-Heading.ensures ∙ ap (λ (xs : List ℕ). slice_range xs h.from c.in-Heading.at) c.deref-in-Heading.ensures.value in
    subst (λ (t : List ℕ). Moves (rest_of h) (Some t) (drop c.in-Heading.at bytes)) (sym text_is)
    (advance_moves bytes h.from h.seen c.in-Heading.at c.in-Heading.end c.requires.holds.from_seen (c.requires.holds.one c.requires.headed) found)

pub returns-in-Line-clause-holds : goal.returns-in-Line-clause-holds
returns-in-Line-clause-holds c =
    let h = c.args.self.now in
    let found = subst (λ (xs : List ℕ). IsNotFound xs h.seen c.in-Line.at) c.deref.ensures.value c.in-Line.ensures in
    rw c.len-self.ensures (subst (λ (n : ℕ). IsHeld h.bytes.items h.from c.in-Line.at n h.headed) (ap (λ (xs : List ℕ). length xs) (sym c.deref.ensures.value) ∙ c.deref.ensures.len) (advance_held h.bytes.items h.from h.seen c.in-Line.at h.headed c.requires.headed c.requires.holds.from_seen (c.requires.holds.one c.requires.headed) found))

pub returns-in-Line-clause-moves : goal.returns-in-Line-clause-moves
returns-in-Line-clause-moves c =
    let h = c.args.self.now in
    let found = subst (λ (xs : List ℕ). IsNotFound xs h.seen c.in-Line.at) c.deref.ensures.value c.in-Line.ensures in
    (refl, advance_one h.bytes.items h.from h.seen c.in-Line.at c.requires.holds.from_seen (c.requires.holds.one c.requires.headed) found)
