-- The products of the lines of a text are those that it is split into.
use Rattle.std.proofs.Common.{◌≡◌, ◌∙◌, ℕ, suc, ◌+◌, ◌-◌, ◌==◌, ◌&&◌, Bool, true, false, cond, List, [], ◌∷◌, length, take, drop, map, drop-drop, refl, ap, sym, subst, arith}
use Rattle.std.specs.Prelude.{is_some}
use Rattle.std.specs.List.{slice_range}
use Rattle.hazard_types.specs.declared.line.Span.{Span}
use Rattle.product_frame.specs.Frames.{line_at}
use Rattle.product_frame.specs.Parts.{heading_of}
use Rattle.product_frame.specs.Splitting.{headings_in, first_or, spans_to, spans_of}
use Rattle.product_frame.specs.Text.{starts, starts_from, line_of}
use Rattle.product_frame.proofs.LineKinds.{no_heading_length}
use Rattle.product_decoder.specs.Feeding.{Parts, onto, has_heading, part, products_in, texts_of}

-- where lines begin behind a byte: here too, where it is LF
abbrev places : Bool → ℕ → List ℕ → List ℕ
places begins at t = cond begins (at ∷ starts_from at t) (starts_from at t)

abbrev cut : List ℕ → Span → List ℕ
cut p s = slice_range p s.from s.to

-- what is told of a text from a place on by its headings there
pub record Tells (p : List ℕ) (at : ℕ) (v : List ℕ) (headings : List ℕ) (q : Parts) : Type 0 where
  pub texts : map (cut p) (spans_to (length p) headings) ≡ q.texts
  pub first : first_or (length p) headings ≡ at + length q.lead
  pub front : take (length q.lead) v ≡ q.lead

one_more : (b : Bool) (p : List ℕ) (at : ℕ) (c : ℕ) (v headings : List ℕ) (q : Parts) → drop at p ≡ c ∷ v → Tells p (at + 1) v headings q → Tells p at (c ∷ v) (cond b (at ∷ headings) headings) (onto b c q)
one_more true p at c v headings q here t =
    let first : first_or (length p) headings ≡ (at + 1) + length q.lead = t.first in
    let size : first_or (length p) headings - at ≡ 1 + length q.lead = omega arith in
    record {
      texts = (let own : slice_range p at (first_or (length p) headings) ≡ c ∷ q.lead = ap (λ (n : ℕ). take n (drop at p)) size ∙ ap (take (1 + length q.lead)) here ∙ longer c v (length q.lead) ∙ ap (λ (xs : List ℕ). c ∷ xs) t.front in
          let later = t.texts in
          λ i. own i ∷ later i);
      first = omega arith;
      front = refl;
    }
  where
    longer : (c : ℕ) (v : List ℕ) (n : ℕ) → take (1 + n) (c ∷ v) ≡ c ∷ take n v
    longer c v n = let e : 1 + n ≡ suc n = omega arith in ap (λ (k : ℕ). take k (c ∷ v)) e
one_more false p at c v headings q here t =
    let first : first_or (length p) headings ≡ (at + 1) + length q.lead = t.first in
    record {
      texts = t.texts;
      first = omega arith;
      front = ap (λ (xs : List ℕ). c ∷ xs) t.front;
    }

begins_at : (b : Bool) (p : List ℕ) (at : ℕ) (t : List ℕ) → headings_in p (places b at t) ≡ cond (b && is_some (heading_of (line_at p at))) (at ∷ headings_in p (starts_from at t)) (headings_in p (starts_from at t))
begins_at true p at t = refl
begins_at false p at t = refl

next_places : (c : ℕ) (at : ℕ) (v : List ℕ) → starts_from at (c ∷ v) ≡ places (c == 10) (at + 1) v
next_places c at v = refl

pub tells : (p : List ℕ) (b : Bool) (at : ℕ) (v : List ℕ) → drop at p ≡ v → at + length v ≡ length p → Tells p at v (headings_in p (places b at v)) (part b v)
tells p b at [] here size =
    let none : is_some (heading_of (line_at p at)) ≡ false = ap (λ (x : List ℕ). is_some (heading_of (line_of x))) here ∙ ap is_some (no_heading_length [] (omega arith)) in
    subst (λ (hs : List ℕ). Tells p at [] hs (record { lead = []; texts = [] })) (sym (begins_at b p at [] ∙ no_heading b (is_some (heading_of (line_at p at))) none))
    (record { texts = refl; first = omega arith; front = refl })
  where
    no_heading : (b c : Bool) → c ≡ false → cond (b && c) (at ∷ []) [] ≡ []
    no_heading true c h = rw h refl
    no_heading false c h = refl
tells p b at (c ∷ v) here size =
    let next : drop (at + 1) p ≡ v = sym (drop-drop 1 at p) ∙ ap (drop 1) here in
    let later = tells p (c == 10) (at + 1) v next (omega arith) in
    let heading : (b && is_some (heading_of (line_at p at))) ≡ (b && has_heading (c ∷ v)) = ap (λ (xs : List ℕ). b && is_some (heading_of (line_of xs))) here in
    subst (λ (hs : List ℕ). Tells p at (c ∷ v) hs (part b (c ∷ v)))
    (sym (begins_at b p at (c ∷ v) ∙ ap (λ (h : Bool). cond h (at ∷ headings_in p (places (c == 10) (at + 1) v)) (headings_in p (places (c == 10) (at + 1) v))) heading))
    (one_more (b && has_heading (c ∷ v)) p at c v (headings_in p (places (c == 10) (at + 1) v)) (part (c == 10) v) here later)

pub products_told : (bytes : List ℕ) → texts_of bytes ≡ products_in bytes
unfolding spans_of
products_told bytes = let t : Tells bytes 0 bytes (headings_in bytes (starts bytes)) (part true bytes) = tells bytes true 0 bytes refl (omega arith) in t.texts
