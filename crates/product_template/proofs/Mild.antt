-- Lines that begin with no capital letter and no $ are lines of a body.
use Rattle.std.proofs.Common.{◌≡◌, ℕ, ◌==◌, ◌&&◌, ◌||◌, not, Bool, true, false, List, [], ◌∷◌, ◌++◌, length, drop, refl, sym, inl, inr, arith, None}
use Rattle.std.specs.Prelude.{slice_index}
use Rattle.std.specs.List.{AllByRecursion, flat_map}
use Rattle.std.proofs.lemmas.Bool.{cases_Bool, and_parts, and_from}
use Rattle.hazard_types.specs.Places.{is_capital}
use Rattle.product_frame.specs.Text.{line_of, before, is_empty, is_left_out}
use Rattle.product_frame.specs.Parts.{is_end, heading_of}
use Rattle.product_frame.specs.LineRules.{IsBodyLine, onto, lines_in, ends_behind, are_ended}
use Rattle.product_frame.proofs.EndToEnd.{ends_append, ends_end}
use Rattle.product_frame.proofs.LineKinds.{no_heading_first, no_heading_length}
use Rattle.product_template.specs.Bodies.{closed, paragraph}

abbrev pub is_mild_byte : ℕ → Bool
is_mild_byte c = not (is_capital c) && not (c == 36)

-- each line begins so, the first one too where the text begins with it
abbrev pub mild : Bool → List ℕ → Bool
mild first [] = true
mild first (c ∷ cs) = (not first || is_mild_byte c) && mild (c == 10) cs

abbrev pub MildLine : List ℕ → Type 0
MildLine [] = Unit {0}
MildLine (c ∷ cs) = is_mild_byte c ≡ true

onto_drop : (c : ℕ) (lines : List (List ℕ)) → AllByRecursion MildLine (drop 1 lines) → AllByRecursion MildLine (drop 1 (onto c lines))
onto_drop c [] h = tt
onto_drop c (line ∷ lines) h = h

onto_all : (c : ℕ) (lines : List (List ℕ)) → is_mild_byte c ≡ true → AllByRecursion MildLine (drop 1 lines) → AllByRecursion MildLine (onto c lines)
onto_all c [] m h = (m, tt)
onto_all c (line ∷ lines) m h = (m, h)

abbrev pub AreMild : Bool → List ℕ → Type 0
AreMild true t = AllByRecursion MildLine (lines_in t)
AreMild false t = AllByRecursion MildLine (drop 1 (lines_in t))

mild_both : (t : List ℕ) → (mild false t ≡ true → AreMild false t) × (mild true t ≡ true → AreMild true t)
mild_both [] = (λ h. tt, λ h. tt)
mild_both (c ∷ cs) = elim (cases_Bool (c == 10)) [
  | inl e ↦ rw e (λ h. (mild_both cs).1 h, λ h. (tt, (mild_both cs).1 (and_parts (is_mild_byte c) (mild true cs) h).1))
  | inr e ↦ rw e (
    λ h. onto_drop c (lines_in cs) ((mild_both cs).0 h),
    λ h. let p = and_parts (is_mild_byte c) (mild false cs) h in onto_all c (lines_in cs) p.0 ((mild_both cs).0 p.1),
  )
]

pub not_true : (b : Bool) → not b ≡ true → b ≡ false
not_true true h = sym h
not_true false h = refl

pub middle_none : (a b c : Bool) → b ≡ false → (a && b && c) ≡ false
middle_none false b c h = refl
middle_none true b c h = rw h refl

whole_none : (c : ℕ) (cs : List ℕ) → is_mild_byte c ≡ true → (is_end (c ∷ cs) ≡ false) × (heading_of (c ∷ cs) ≡ None)
whole_none c cs m =
    let p = and_parts (not (is_capital c)) (not (c == 36)) m in
    (middle_none (length (c ∷ cs) == 2) (c == 36) (slice_index (c ∷ cs) 1 == 36) (not_true (c == 36) p.1), no_heading_first (c ∷ cs) (not_true (is_capital c) p.0))

empty_none : (is_end [] ≡ false) × (heading_of [] ≡ None)
empty_none = (refl, no_heading_length [] (omega arith))

before_none : (c : ℕ) (line : List ℕ) → is_mild_byte c ≡ true → (is_end (before c line) ≡ false) × (heading_of (before c line) ≡ None)
before_none c line m = elim (cases_Bool (is_empty line && is_left_out c)) [ inl e ↦ rw e empty_none | inr e ↦ rw e (whole_none c line m) ]

body_line : (line : List ℕ) → MildLine line → IsBodyLine line
body_line [] m = empty_none
body_line (c ∷ cs) m = elim (cases_Bool (c == 10)) [ inl e ↦ rw e empty_none | inr e ↦ rw e (before_none c (line_of cs) m) ]

body_lines : (lines : List (List ℕ)) → AllByRecursion MildLine lines → AllByRecursion IsBodyLine lines
body_lines [] h = tt
body_lines (line ∷ lines) h = (body_line line h.0, body_lines lines h.1)

-- lines with the end of the last, each beginning so
pub record IsChunk (t : List ℕ) : Type 0 where
  pub mild : mild true t ≡ true
  pub ended : are_ended t ≡ true

pub chunk_lines : (t : List ℕ) → IsChunk t → AllByRecursion IsBodyLine (lines_in t)
chunk_lines t is = body_lines (lines_in t) ((mild_both t).1 is.mild)

mild_append : (d : ℕ) (a b : List ℕ) → ends_behind d a ≡ true → mild (d == 10) a ≡ true → mild true b ≡ true → mild (d == 10) (a ++ b) ≡ true
mild_append d [] b e m h = rw e h
mild_append d (c ∷ a) b e m h =
    let p = and_parts (not (d == 10) || is_mild_byte c) (mild (c == 10) a) m in
    and_from _ _ p.0 (mild_append c a b e p.1 h)

pub chunk_none : IsChunk []
chunk_none = record { mild = refl; ended = refl }

pub chunk_both : (a b : List ℕ) → IsChunk a → IsChunk b → IsChunk (a ++ b)
chunk_both a b x y = record { mild = mild_append 10 a b x.ended x.mild y.mild; ended = ends_append 10 a b x.ended y.ended }

pub chunk_each : {X : Type 0} (f : X → List ℕ) (xs : List X) → AllByRecursion (λ x. IsChunk (f x)) xs → IsChunk (flat_map f xs)
chunk_each f [] h = chunk_none
chunk_each f (x ∷ xs) h = chunk_both (f x) (flat_map f xs) h.0 (chunk_each f xs h.1)

mild_end : (first : Bool) (a b : List ℕ) → mild first a ≡ true → mild true b ≡ true → mild first (a ++ 10 ∷ b) ≡ true
mild_end true [] b m h = h
mild_end false [] b m h = h
mild_end first (c ∷ a) b m h =
    let p = and_parts (not first || is_mild_byte c) (mild (c == 10) a) m in
    and_from _ _ p.0 (mild_end (c == 10) a b p.1 h)

pub chunk_closed : (t : List ℕ) → mild true t ≡ true → IsChunk (closed t)
chunk_closed [] m = chunk_none
chunk_closed (c ∷ cs) m = record { mild = mild_end true (c ∷ cs) [] m refl; ended = ends_end 10 (c ∷ cs) [] refl }

pub chunk_paragraph : (t : List ℕ) → mild true t ≡ true → IsChunk (paragraph t)
chunk_paragraph [] m = chunk_none
chunk_paragraph (c ∷ cs) m = record { mild = mild_end true (c ∷ cs) (10 ∷ []) m refl; ended = ends_end 10 (c ∷ cs) (10 ∷ []) refl }

-- lines with the end of the last, and that end once more
pub chunk_closed_again : (t : List ℕ) → IsChunk t → IsChunk (closed t)
chunk_closed_again t is = chunk_closed t is.mild
