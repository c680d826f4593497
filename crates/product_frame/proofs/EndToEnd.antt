-- Texts of one product each, laid end to end, are split apart again.
use Rattle.std.proofs.Common.{◌≡◌, ℕ, ◌+◌, ◌==◌, Bool, true, false, List, [], ◌∷◌, ◌++◌, length, drop, map, refl, ap, sym, ◌∙◌, subst, cond, arith, inl, inr, length-append, add-zero}
use Rattle.std.specs.Prelude.{is_some}
use Rattle.std.specs.List.{All, AllByRecursion, concat}
use Rattle.std.proofs.lemmas.Bool.{cases_Bool}
use Rattle.hazard_types.specs.declared.line.Span.{Span}
use Rattle.product_frame.specs.Text.{starts_from, line_of, before}
use Rattle.product_frame.specs.Parts.{heading_of}
use Rattle.product_frame.specs.Frames.{line_at}
use Rattle.product_frame.specs.LineRules.{ends_behind}
use Rattle.product_frame.specs.Splitting.{headings_in, first_or, spans_to, spans_of, IsOneProduct, spans_from}
use Rattle.product_frame.proofs.LineKinds.{no_heading_length}
use Rattle.product_frame.proofs.Runs.{all_from, starting, behind}

-- ---- ends

ends_after : (d : ℕ) (b : List ℕ) → (d == 10) ≡ true → ends_behind 10 b ≡ true → ends_behind d b ≡ true
ends_after d [] e h = e
ends_after d (c ∷ b) e h = h

pub ends_append : (d : ℕ) (a b : List ℕ) → ends_behind d a ≡ true → ends_behind 10 b ≡ true → ends_behind d (a ++ b) ≡ true
ends_append d [] b e h = ends_after d b e h
ends_append d (c ∷ a) b e h = ends_append c a b e h

pub ends_end : (d : ℕ) (a b : List ℕ) → ends_behind 10 b ≡ true → ends_behind d (a ++ 10 ∷ b) ≡ true
ends_end d [] b h = h
ends_end d (c ∷ a) b h = ends_end c a b h

-- ---- headings of a text that stands within another

-- a line that ends within a text is the same, whatever follows the text
line_kept : (c : ℕ) (t rest : List ℕ) → ends_behind c t ≡ true → line_of ((c ∷ t) ++ rest) ≡ line_of (c ∷ t)
line_kept c [] rest h = rw h refl
line_kept c (d ∷ t) rest h = elim (cases_Bool (c == 10)) [ inl e ↦ rw e refl | inr e ↦ rw e (ap (before c) (line_kept d t rest h)) ]

-- where lines begin behind a byte: here too, where it is LF
abbrev places : ℕ → ℕ → List ℕ → List ℕ
places d at t = cond (d == 10) (at ∷ starts_from at t) (starts_from at t)

abbrev moved : ℕ → List ℕ → List ℕ
moved at xs = map (λ k. at + k) xs

empty_none : (p : List ℕ) (at : ℕ) → drop at p ≡ [] → is_some (heading_of (line_at p at)) ≡ false
empty_none p at e = ap (λ (x : List ℕ). is_some (heading_of (line_of x))) e ∙ ap is_some (no_heading_length [] (omega arith))

pick : (b : Bool) (at i : ℕ) (xs ys rest : List ℕ) → xs ≡ moved at ys ++ rest → cond b ((at + i) ∷ xs) xs ≡ moved at (cond b (i ∷ ys) ys) ++ rest
pick true at i xs ys rest h = ap (λ (zs : List ℕ). (at + i) ∷ zs) h
pick false at i xs ys rest h = h

module _ (p t rest : List ℕ) (at : ℕ) where
  abbrev Agree : ℕ → ℕ → List ℕ → Type 0
  Agree d i v = headings_in p (places d (at + i) (v ++ rest)) ≡ moved at (headings_in t (places d i v)) ++ headings_in p (starting (at + length t) rest)

  agree : (d i : ℕ) (v : List ℕ) → drop i t ≡ v → drop (at + i) p ≡ v ++ rest → i + length v ≡ length t → ends_behind d v ≡ true → Agree d i v
  agree d i [] ht hp len e =
      let here : at + i ≡ at + length t = omega arith in
      rw (e, empty_none t i ht) (ap (λ (k : ℕ). headings_in p (starting k rest)) here)
  agree d i (c ∷ v) ht hp len e =
      let ht1 : drop (i + 1) t ≡ v = behind t (c ∷ []) v i ht in
      let hp1 : drop (at + i + 1) p ≡ v ++ rest = behind p (c ∷ []) (v ++ rest) (at + i) hp in
      let next : at + i + 1 ≡ at + (i + 1) = omega arith in
      let more = agree c (i + 1) v ht1 (subst (λ (k : ℕ). drop k p ≡ v ++ rest) next hp1) (omega arith) e in
      let same : line_at p (at + i) ≡ line_at t i = ap line_of hp ∙ line_kept c v rest e ∙ ap line_of (sym ht) in
      let later : headings_in p (places c (at + i + 1) (v ++ rest)) ≡ moved at (headings_in t (places c (i + 1) v)) ++ headings_in p (starting (at + length t) rest) = ap (λ (k : ℕ). headings_in p (places c k (v ++ rest))) next ∙ more in
      elim (cases_Bool (d == 10)) [
        | inl f ↦ rw (f, same) (pick (is_some (heading_of (line_at t i))) at i (headings_in p (places c (at + i + 1) (v ++ rest))) (headings_in t (places c (i + 1) v)) (headings_in p (starting (at + length t) rest)) later)
        | inr f ↦ rw f later
      ]

one_stands : (p t rest : List ℕ) (at : ℕ) → IsOneProduct t → drop at p ≡ t ++ rest → headings_in p (starting at (t ++ rest)) ≡ at ∷ headings_in p (starting (at + length t) rest)
one_stands p t rest at is h =
    let later = headings_in p (starting (at + length t) rest) in
    let whole = agree p t rest at 10 0 t refl (subst (λ (k : ℕ). drop k p ≡ t ++ rest) (sym (add-zero at)) h) (omega arith) is.ended in
    ap (λ (k : ℕ). headings_in p (starting k (t ++ rest))) (sym (add-zero at)) ∙ whole ∙ ap (λ (xs : List ℕ). moved at xs ++ later) is.heading ∙ ap (λ (k : ℕ). k ∷ later) (add-zero at)

-- where the texts begin
abbrev begins_from : ℕ → List (List ℕ) → List ℕ
begins_from at [] = []
begins_from at (t ∷ ts) = at ∷ begins_from (at + length t) ts

all_stand : (p : List ℕ) (ts : List (List ℕ)) (at : ℕ) → AllByRecursion IsOneProduct ts → drop at p ≡ concat ts → headings_in p (starting at (concat ts)) ≡ begins_from at ts
all_stand p [] at h e = rw (empty_none p at e) refl
all_stand p (t ∷ ts) at h e = one_stands p t (concat ts) at h.0 e ∙ ap (λ (xs : List ℕ). at ∷ xs) (all_stand p ts (at + length t) h.1 (behind p t (concat ts) at e))

abbrev span_of : ℕ → ℕ → Span
span_of from to = record { from = from; to = to }

first_is : (k end : ℕ) (ts : List (List ℕ)) → end ≡ k + length (concat ts) → first_or end (begins_from k ts) ≡ k
first_is k end [] e = e ∙ add-zero k
first_is k end (t ∷ ts) e = refl

spans_stand : (at end : ℕ) (ts : List (List ℕ)) → end ≡ at + length (concat ts) → spans_to end (begins_from at ts) ≡ spans_from at ts
spans_stand at end [] e = refl
spans_stand at end (t ∷ ts) e =
    let next = at + length t in
    let on : end ≡ next + length (concat ts) = omega (arith, e, length-append t (concat ts)) in
    let more = spans_to end (begins_from next ts) in
    ap (λ (k : ℕ). span_of at k ∷ more) (first_is next end ts on) ∙ ap (λ (xs : List Span). span_of at next ∷ xs) (spans_stand next end ts on)

pub split_apart : (ts : List (List ℕ)) → All IsOneProduct ts → spans_of (concat ts) ≡ spans_from 0 ts
unfolding spans_of
split_apart ts h =
    let whole = concat ts in
    ap (spans_to (length whole)) (all_stand whole ts 0 (all_from IsOneProduct ts h) refl) ∙ spans_stand 0 (length whole) ts (omega arith)
