-- Where the first heading line begins.
use Rattle.std.proofs.Common.{◌≡◌, ℕ, ◌+◌, true, false, List, [], ◌∷◌, ◌++◌, length, drop, get_or, Option, Some, None, Result, Err, option_map, refl, ap, sym, ◌∙◌, arith, append_assoc, length-append, inl, inr}
use Rattle.std.specs.Prelude.{slice_index, is_some}
use Rattle.std.proofs.lemmas.Bool.{cases_Bool}
use Rattle.product_frame.specs.Text.{starts, starts_from, next_start}
use Rattle.product_frame.specs.Parts.{heading_of}
use Rattle.product_frame.specs.Frames.{line_at, heading_index, first_heading, end_by, or_fault, frame_from, read_first_frame}
use Rattle.product_frame.specs.declared.frame.FrameFault.{FrameFault}
use Rattle.product_frame.specs.declared.frame.FrameFault.TheVariants.{NoHeading}
use Rattle.product_frame.proofs.LineEnds.{from_next, starts_are}

-- ---- line by line

pub found_next : (bytes : List ℕ) (at next : ℕ) → Some next ≡ next_start bytes at → is_some (heading_of (line_at bytes next)) ≡ true → first_heading bytes (starts_from at (drop at bytes)) ≡ Some next
found_next bytes at next e h = ap (first_heading bytes) (starts_are bytes at ∙ ap (from_next bytes) (sym e)) ∙ rw h refl

pub passed_next : (bytes : List ℕ) (at next : ℕ) → Some next ≡ next_start bytes at → is_some (heading_of (line_at bytes next)) ≡ false
    → first_heading bytes (starts_from next (drop next bytes)) ≡ first_heading bytes (starts_from at (drop at bytes))
passed_next bytes at next e h = sym (ap (first_heading bytes) (starts_are bytes at ∙ ap (from_next bytes) (sym e)) ∙ rw h refl)

pub none_next : (bytes : List ℕ) (at : ℕ) → None ≡ next_start bytes at → first_heading bytes (starts_from at (drop at bytes)) ≡ None
none_next bytes at e = ap (first_heading bytes) (starts_are bytes at ∙ ap (from_next bytes) (sym e))

-- ---- the same as the place that the index tells

at_front : (front : List ℕ) (s : ℕ) (places : List ℕ) → get_or (front ++ s ∷ places) (length front) 0 ≡ s
at_front [] s places = refl
at_front (x ∷ front) s places = at_front front s places

place_is : (bytes front places : List ℕ) → first_heading bytes places ≡ option_map (slice_index (front ++ places)) (heading_index bytes (length front) places)
place_is bytes front [] = refl
place_is bytes front (s ∷ places) = elim (cases_Bool (is_some (heading_of (line_at bytes s)))) [
  | inl e ↦ rw e (ap Some (sym (at_front front s places)))
  | inr e ↦
      let size : length (front ++ s ∷ []) ≡ length front + 1 = omega (arith, length-append front (s ∷ [])) in
      rw e (place_is bytes (front ++ s ∷ []) places ∙ ap (λ (all : List ℕ). option_map (slice_index all) (heading_index bytes (length (front ++ s ∷ [])) places)) (append_assoc front (s ∷ []) places)
      ∙ ap (λ (n : ℕ). option_map (slice_index (front ++ s ∷ places)) (heading_index bytes n places)) size)
]

pub place : (bytes places : List ℕ) → first_heading bytes places ≡ option_map (slice_index places) (heading_index bytes 0 places)
place bytes places = place_is bytes [] places

abbrev pub end_or : ℕ → Option ℕ → ℕ
end_or n None = n
end_or n (Some at) = at

end_mapped : (rest : List ℕ) (index : Option ℕ) → end_or (length rest) (option_map (slice_index (starts_from 0 rest)) index) ≡ end_by rest index
end_mapped rest None = refl
end_mapped rest (Some k) = refl

pub end_is : (rest : List ℕ) → end_or (length rest) (first_heading rest (starts_from 0 rest)) ≡ end_by rest (heading_index rest 0 (starts_from 0 rest))
end_is rest = ap (end_or (length rest)) (place rest (starts_from 0 rest)) ∙ end_mapped rest (heading_index rest 0 (starts_from 0 rest))

mapped : {A : Type 0} (f : ℕ → ℕ) (o : Option ℕ) (x : FrameFault) (g : ℕ → Result A FrameFault) → or_fault (option_map f o) x g ≡ or_fault o x (λ k. g (f k))
mapped f None x g = refl
mapped f (Some k) x g = refl

frame_is : (bytes : List ℕ) → or_fault (first_heading bytes (starts bytes)) NoHeading (λ at. frame_from (drop at bytes)) ≡ read_first_frame bytes
unfolding read_first_frame
frame_is bytes =
    ap (λ (o : Option ℕ). or_fault o NoHeading (λ at. frame_from (drop at bytes))) (place bytes (starts bytes))
    ∙ mapped (slice_index (starts bytes)) (heading_index bytes 0 (starts bytes)) NoHeading (λ at. frame_from (drop at bytes))

pub frame_found : (bytes : List ℕ) (at : ℕ) → Some at ≡ first_heading bytes (starts bytes) → frame_from (drop at bytes) ≡ read_first_frame bytes
frame_found bytes at e = ap (λ (o : Option ℕ). or_fault o NoHeading (λ at. frame_from (drop at bytes))) e ∙ frame_is bytes

pub no_frame : (bytes : List ℕ) → None ≡ first_heading bytes (starts bytes) → read_first_frame bytes ≡ Err NoHeading
no_frame bytes e = sym (frame_is bytes) ∙ ap (λ (o : Option ℕ). or_fault o NoHeading (λ at. frame_from (drop at bytes))) (sym e)
