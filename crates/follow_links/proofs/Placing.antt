-- The place and the products of a follower that heard texts one after another.
use Rattle.std.proofs.Common.{◌≡◌, ◌∙◌, ◌+◌, ◌==◌, ℕ, Bool, true, false, List, [], ◌∷◌, ◌++◌, length, Result, Ok, Err, is_ok, refl, sym, ap, append_assoc, append-nil, length-append, if◌then◌else◌}
use Rattle.std.proofs.lemmas.Bool.{eq-eqb}
use Rattle.hazard_types.specs.declared.codes.Class.{Class}
use Rattle.event_life.specs.Products.{Product}
use Rattle.product_decoder.specs.Decoded.{decode}
use Rattle.product_decoder.specs.ReaderModel.{Reading}
use Rattle.product_decoder.specs.declared.types.Decoded.{Decoded}
use Rattle.product_frame.specs.declared.frame.FrameFault.{FrameFault}
use Rattle.follow_core.specs.Hearing.{place_of, having_taken, found_in, products_in}
use Rattle.follow_links.specs.Talks.{after_all}

same_place : (n : ℕ) → (n == n) ≡ true
same_place n = eq-eqb n n refl

heard_products : (f : Reading) (text : List ℕ) → (having_taken f (place_of f) text).products ≡ f.products ++ found_in f.office f.class (decode text)
heard_products f text = ap (λ (b : Bool). if b then f.products ++ found_in f.office f.class (decode text) else f.products) (same_place (place_of f))

found_one : (office : List ℕ) (class : Class) (d : Result Decoded FrameFault) → is_ok d ≡ true → length (found_in office class d) ≡ 1
found_one office class (Ok d) h = refl
found_one office class (Err e) h = absurd (no h)
  where
    no : false ≡ true → ⊥
    no h = cc

pub heard_place : (f : Reading) (text : List ℕ) → is_ok (decode text) ≡ true → place_of (having_taken f (place_of f) text) ≡ place_of f + 1
heard_place f text h =
    ap length (heard_products f text) ∙ (length-append f.products (found_in f.office f.class (decode text)) ∙ ap (λ (n : ℕ). place_of f + n) (found_one f.office f.class (decode text) h))

pub after_more : (f : Reading) (xs ys : List (List ℕ)) → after_all f (xs ++ ys) ≡ after_all (after_all f xs) ys
after_more f [] ys = refl
after_more f (x ∷ xs) ys = after_more (having_taken f (place_of f) x) xs ys

pub after_office : (f : Reading) (texts : List (List ℕ)) → (after_all f texts).office ≡ f.office
after_office f [] = refl
after_office f (t ∷ ts) = after_office (having_taken f (place_of f) t) ts

pub after_class : (f : Reading) (texts : List (List ℕ)) → (after_all f texts).class ≡ f.class
after_class f [] = refl
after_class f (t ∷ ts) = after_class (having_taken f (place_of f) t) ts

pub after_products : (f : Reading) (texts : List (List ℕ)) → (after_all f texts).products ≡ f.products ++ products_in f.office f.class texts
after_products f [] = sym (append-nil f.products)
after_products f (t ∷ ts) =
    after_products (having_taken f (place_of f) t) ts
    ∙ (ap (λ (ps : List Product). ps ++ products_in f.office f.class ts) (heard_products f t)
    ∙ append_assoc f.products (found_in f.office f.class (decode t)) (products_in f.office f.class ts))
