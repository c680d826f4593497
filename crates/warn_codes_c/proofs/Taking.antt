-- Products that come out of a stream one after another.
use Rattle.std.proofs.Common.{◌≡◌, ◌∙◌, ℕ, ◌+◌, ◌<◌, List, [], ◌∷◌, ◌++◌, length, map, refl, ap, sym, append_assoc, append-nil, arith, Bool, true, false, cond}
use Rattle.product_decoder.specs.Decoded.{decode}
use Rattle.product_decoder.specs.Feeding.{Fed, products_in, Gives, GivesNone}
use Rattle.warn_codes_c.specs.declared.archive.Archive.{Archive}
use Rattle.warn_codes_c.specs.Archive.{Adds, Same, Pushed, Ended, Finished, readings_of, products_of, product_in, numbers_from, number_in, products_with, numbers_with, count_with}

-- a product that came out is the first of those that come to be
comes : (old new : Fed) (text : List ℕ) → Gives old text new → (b : Bool) → old.ended ≡ b → (more : List ℕ) → (old.ended ≡ true → more ≡ []) → products_in (old.rest ++ more) ≡ text ∷ products_in (new.rest ++ more)
comes old new text gives false is more at_end = (gives.0 is).1 more
comes old new text gives true is more at_end =
    rw (at_end is, append-nil old.rest, append-nil new.rest) (gives.1 is)

-- where none came out they are the same
waits : (old new : Fed) → GivesNone old new → (b : Bool) → old.ended ≡ b → (more : List ℕ) → (old.ended ≡ true → more ≡ []) → products_in (old.rest ++ more) ≡ products_in (new.rest ++ more)
waits old new none false is more at_end = (none.0 is).1 more
waits old new none true is more at_end =
    let nothing = none.1 is in
    rw (at_end is, append-nil old.rest, nothing.1) nothing.0

pub same_none : (a : Archive) → Same a a
same_none a = record { office = refl; class = refl; ended = refl; products = λ more h. refl; numbers = λ more h. refl; count = λ more h. refl }

pub same_after : (a b c : Archive) → Same a b → Same b c → Same a c
same_after a b c first next = record {
  office = next.office ∙ first.office;
  class = next.class ∙ first.class;
  ended = next.ended ∙ first.ended;
  products = λ more h. next.products more (λ e. h (sym first.ended ∙ e)) ∙ first.products more h;
  numbers = λ more h. next.numbers more (λ e. h (sym first.ended ∙ e)) ∙ first.numbers more h;
  count = λ more h. next.count more (λ e. h (sym first.ended ∙ e)) ∙ first.count more h;
}

module _ (a c : Archive) (feed : Fed) (text : List ℕ) (gives : Gives a.feed text feed) (kept : feed.ended ≡ a.feed.ended) (adds : Adds (record a { feed = feed }) (decode text) c) (same_feed : c.feed ≡ feed) where
  readings : (more : List ℕ) → (a.feed.ended ≡ true → more ≡ []) → readings_of (a.feed.rest ++ more) ≡ decode text ∷ readings_of (c.feed.rest ++ more)
  readings more h = ap (map decode) (comes a.feed feed text gives a.feed.ended refl more h) ∙ ap (λ (f : Fed). decode text ∷ readings_of (f.rest ++ more)) (sym same_feed)

  pub same_next : Same a c
  same_next = record {
    office = adds.office;
    class = adds.class;
    ended = ap (λ (f : Fed). f.ended) same_feed ∙ kept;
    products = λ more h.
        rw (adds.office, adds.class, adds.products, readings more h)
        (append_assoc a.reader.products (product_in a.reader.office a.reader.class (decode text)) (products_of a.reader.office a.reader.class (readings_of (c.feed.rest ++ more))));
    numbers = λ more h.
        rw (adds.count, adds.numbers, readings more h)
        (append_assoc a.numbers (number_in (a.count + 1) (decode text)) (numbers_from (a.count + 1 + 1) (readings_of (c.feed.rest ++ more))));
    count = λ more h. rw (adds.count, readings more h) (omega arith);
  }

pub same_end : (a : Archive) (feed : Fed) → GivesNone a.feed feed → feed.ended ≡ a.feed.ended → Same a (record a { feed = feed })
same_end a feed none kept = record {
  office = refl;
  class = refl;
  ended = kept;
  products = λ more h. ap (λ (texts : List (List ℕ)). a.reader.products ++ products_of a.reader.office a.reader.class (map decode texts)) (sym (waits a.feed feed none a.feed.ended refl more h));
  numbers = λ more h. ap (λ (texts : List (List ℕ)). a.numbers ++ numbers_from (a.count + 1) (map decode texts)) (sym (waits a.feed feed none a.feed.ended refl more h));
  count = λ more h. ap (λ (texts : List (List ℕ)). a.count + length (map decode texts)) (sym (waits a.feed feed none a.feed.ended refl more h));
}

pub nothing_left : (a : Archive) (feed : Fed) → GivesNone a.feed feed → a.feed.ended ≡ true → feed.rest ≡ []
nothing_left a feed none h = (none.1 h).1

pub smaller : (more' more : Bool) (n m : ℕ) → more ≡ true → (more' ≡ true → n < m) → cond more' (n + 1) 0 < cond more (m + 1) 0
smaller true true n m e some = let less : n < m = some refl in omega (arith, less)
smaller false true n m e some = omega arith
smaller more' false n m e some = absurd (cc)

-- a piece was put behind what is left, and the products that it finished were taken
pub pushed : (a c : Archive) (feed : Fed) (piece : List ℕ) → feed.rest ≡ a.feed.rest ++ piece → feed.ended ≡ false → Same (record a { feed = feed }) c → Pushed a piece c
pushed a c feed piece behind going same = record {
  office = same.office;
  class = same.class;
  going = same.ended ∙ going;
  products = λ more. same.products more (λ e. absurd (clash feed.ended going e)) ∙ ap (λ (rest : List ℕ). a.reader.products ++ products_of a.reader.office a.reader.class (readings_of rest)) (at_more more);
  numbers = λ more. same.numbers more (λ e. absurd (clash feed.ended going e)) ∙ ap (λ (rest : List ℕ). a.numbers ++ numbers_from (a.count + 1) (readings_of rest)) (at_more more);
  count = λ more. same.count more (λ e. absurd (clash feed.ended going e)) ∙ ap (λ (rest : List ℕ). a.count + length (readings_of rest)) (at_more more);
}
  where
    clash : (b : Bool) → b ≡ false → b ≡ true → ⊥
    clash b f t = cc

    at_more : (more : List ℕ) → feed.rest ++ more ≡ a.feed.rest ++ (piece ++ more)
    at_more more = ap (λ (rest : List ℕ). rest ++ more) behind ∙ append_assoc a.feed.rest piece more

-- the end was marked, and the products that are left were taken
pub ended : (a c : Archive) (feed : Fed) → feed.rest ≡ a.feed.rest → feed.ended ≡ true → Same (record a { feed = feed }) c → (feed.ended ≡ true → c.feed.rest ≡ []) → Ended a c
ended a c feed same_rest at_end same last = record {
  office = same.office;
  class = same.class;
  ended = same.ended ∙ at_end;
  rest = last at_end;
  products = nothing_more (last at_end) ∙ same.products [] (λ _. refl) ∙ ap (λ (rest : List ℕ). a.reader.products ++ products_of a.reader.office a.reader.class (readings_of (rest ++ []))) same_rest;
  numbers = no_number (last at_end) ∙ same.numbers [] (λ _. refl) ∙ ap (λ (rest : List ℕ). a.numbers ++ numbers_from (a.count + 1) (readings_of (rest ++ []))) same_rest;
  count = no_count (last at_end) ∙ same.count [] (λ _. refl) ∙ ap (λ (rest : List ℕ). a.count + length (readings_of (rest ++ []))) same_rest;
}
  where
    nothing_more : c.feed.rest ≡ [] → c.reader.products ≡ products_with c []
    nothing_more h = rw h (sym (append-nil c.reader.products))

    no_number : c.feed.rest ≡ [] → c.numbers ≡ numbers_with c []
    no_number h = rw h (sym (append-nil c.numbers))

    no_count : c.feed.rest ≡ [] → c.count ≡ count_with c []
    no_count h = rw h (omega arith)

-- and another stream begins
pub finished : (a c : Archive) (feed : Fed) → Ended a c → feed.rest ≡ [] → feed.ended ≡ false → Finished a (record c { feed = feed })
finished a c feed at_end none going = record { office = at_end.office; class = at_end.class; going = going; rest = none; products = at_end.products; numbers = at_end.numbers; count = at_end.count }

module _ (a b c : Archive) (stream : List ℕ) (pushed : Pushed a stream b) (ended : Ended b c) (rest : a.feed.rest ≡ []) where
  pub whole_products : a.reader.products ≡ [] → c.reader.products ≡ products_of a.reader.office a.reader.class (readings_of stream)
  whole_products none = ended.products ∙ pushed.products [] ∙ rw (none, rest, append-nil stream) refl

  pub whole_numbers : a.numbers ≡ [] → a.count ≡ 0 → c.numbers ≡ numbers_from 1 (readings_of stream)
  whole_numbers none zero = ended.numbers ∙ pushed.numbers [] ∙ rw (none, zero, rest, append-nil stream) refl
