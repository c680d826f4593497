-- Names of zones have no digit and no $, and begin with a letter.
use Rattle.std.proofs.Common.{◌≡◌, ℕ, ◌==◌, ◌&&◌, ◌<◌, not, Bool, true, false, List, [], ◌∷◌, ◌++◌, length, refl, ap, sym, ◌∙◌, subst, inl, inr, arith, Option, Some, None}
use Rattle.std.specs.Prelude.{slice_index, unwrap_or, nat_le, IsSome}
use Rattle.std.specs.List.{AllByRecursion, list_all}
use Rattle.std.specs.Char.{is_ascii_alphabetic}
use Rattle.std.specs.Map.{values_of}
use Rattle.std.specs.Ordering.{is_eq}
use Rattle.std.proofs.lemmas.Bool.{cases_Bool, and_parts, and_from, eqb-true}
use Rattle.std.proofs.lemmas.List.Elements.{All-from_recursion}
use Rattle.hazard_types.specs.Calendar.{is_digit}
use Rattle.hazard_types.specs.Characters.{is_printable}
use Rattle.hazard_types.specs.Places.{Place, by_place}
use Rattle.desk_settings.specs.Forms.{is_zone_name, is_line_byte, is_zone_name_byte, begins_with_letter}
use Rattle.desk_settings.specs.Looking.{name_for_zone}
use Rattle.headline_text.specs.NameLines.{name_lines}
use Rattle.headline_text.proofs.NameLaws.{lines_pass, lines_begin}
use Rattle.product_frame.specs.Text.{line_of}
use Rattle.product_frame.specs.Layout.{names_text}
use Rattle.product_frame.specs.LineRules.{IsBodyLine, lines_in}
use Rattle.product_frame.specs.Parts.{has_slash}
use Rattle.product_frame.proofs.LineKinds.{all_at, no_digit_no_heading}
use Rattle.product_frame.proofs.Runs.{all_line, all_weaker, lines_have}
use Rattle.product_template.specs.Bodies.{zone_names}
use Rattle.product_template.proofs.Mild.{middle_none, not_true}

-- no digit and no $
abbrev pub is_calm : ℕ → Bool
is_calm c = not (is_digit c) && not (c == 36)

abbrev pub IsCalm : ℕ → Type 0
IsCalm c = is_calm c ≡ true

byte_calm : (c : ℕ) → is_zone_name_byte c ≡ true → is_calm c ≡ true
byte_calm c h =
    let a = and_parts (is_line_byte c && not (c == 36) && not (c == 38)) (not (c == 45)) h in
    let b = and_parts (is_line_byte c && not (c == 36)) (not (c == 38)) a.0 in
    let d = and_parts (is_line_byte c) (not (c == 36)) b.0 in
    and_from _ _ (and_parts (is_printable c) (not (is_digit c)) d.0).1 d.1

name_calm : (name : List ℕ) → list_all is_zone_name_byte name ≡ true → list_all is_calm name ≡ true
name_calm [] h = refl
name_calm (c ∷ cs) h = let p = and_parts (is_zone_name_byte c) (list_all is_zone_name_byte cs) h in and_from _ _ (byte_calm c p.0) (name_calm cs p.1)

-- the name that stands beside a zone is one of the names
beside_passes : (P : List ℕ → Bool) → (names : List (Place × List ℕ)) (z : Place) → AllByRecursion (λ n. P n ≡ true) (values_of names) → (name : List ℕ) → name_for_zone names z ≡ Some name → P name ≡ true
beside_passes P [] z h name e = cc e
beside_passes P (pair ∷ pairs) z h name e = elim (cases_Bool (is_eq (by_place pair.0 z))) [
  | inl n ↦ (let same : Some pair.1 ≡ Some name = rw n at e in (let one : pair.1 ≡ name = cc same in ap P (sym one) ∙ h.0))
  | inr n ↦ beside_passes P pairs z h.1 name (rw n at e)
]

found : (o : Option (List ℕ)) → IsSome o → (name : List ℕ) × (o ≡ Some name)
found (Some name) h = (name, refl)
found None h = cc h

named : (names : List (Place × List ℕ)) (z : Place) → AllByRecursion (λ n. is_zone_name n ≡ true) (values_of names) → IsSome (name_for_zone names z) → is_zone_name (unwrap_or (name_for_zone names z) []) ≡ true
named names z h is = let f = found (name_for_zone names z) is in rw f.1 (beside_passes is_zone_name names z h f.0 f.1)

parts : (name : List ℕ) → is_zone_name name ≡ true → (begins_with_letter name ≡ true) × (list_all is_zone_name_byte name ≡ true)
parts name h =
    let p = and_parts (nat_le (length name) 40 && begins_with_letter name) (list_all is_zone_name_byte name) h in
    ((and_parts (nat_le (length name) 40) (begins_with_letter name) p.0).1, p.1)

pub all_calm : (names : List (Place × List ℕ)) (zones : List Place) → AllByRecursion (λ n. is_zone_name n ≡ true) (values_of names) → AllByRecursion (λ z. IsSome (name_for_zone names z)) zones
    → AllByRecursion (λ n. list_all is_calm n ≡ true) (zone_names names zones)
all_calm names [] h is = tt
all_calm names (z ∷ zones) h is = (let n = unwrap_or (name_for_zone names z) [] in name_calm n (parts n (named names z h is.0)).1, all_calm names zones h is.1)

letter_no_slash : (c : ℕ) → is_ascii_alphabetic c ≡ true → (c == 47) ≡ false
letter_no_slash c h = elim (cases_Bool (c == 47)) [
  | inl e ↦ (let k : is_ascii_alphabetic 47 ≡ true = subst (λ (x : ℕ). is_ascii_alphabetic x ≡ true) (eqb-true c 47 e) h in cc k)
  | inr e ↦ e
]

second_none : (a b : Bool) → b ≡ false → (a && b) ≡ false
second_none false b h = refl
second_none true b h = h

first_no_slash : (name : List ℕ) (names : List (List ℕ)) → begins_with_letter name ≡ true → has_slash (name_lines (name ∷ names)) ≡ false
first_no_slash [] names h = cc h
first_no_slash (c ∷ cs) names h =
    let t = name_lines ((c ∷ cs) ∷ names) in
    second_none (nat_le 1 (length t)) (slice_index t 0 == 47) (ap (λ (x : ℕ). x == 47) (lines_begin c cs names) ∙ letter_no_slash c h)

pub no_slash : (names : List (Place × List ℕ)) (zones : List Place) → 0 < length zones → AllByRecursion (λ n. is_zone_name n ≡ true) (values_of names) → AllByRecursion (λ z. IsSome (name_for_zone names z)) zones
    → has_slash (name_lines (zone_names names zones)) ≡ false
no_slash names [] lt h is = let never : ⊥ = omega arith in absurd never
no_slash names (z ∷ zones) lt h is = let n = unwrap_or (name_for_zone names z) [] in first_no_slash n (zone_names names zones) (parts n (named names z h is.0)).0

-- ---- lines of calm bytes

calm_both : (a b : List ℕ) → list_all is_calm a ≡ true → list_all is_calm b ≡ true → list_all is_calm (a ++ b) ≡ true
calm_both [] b x y = y
calm_both (c ∷ a) b x y = let p = and_parts (is_calm c) (list_all is_calm a) x in and_from _ _ p.0 (calm_both a b p.1 y)

calm_to : (t : List ℕ) → list_all is_calm t ≡ true → AllByRecursion IsCalm t
calm_to [] h = tt
calm_to (c ∷ t) h = let p = and_parts (is_calm c) (list_all is_calm t) h in (p.0, calm_to t p.1)

calm_line : (line : List ℕ) → AllByRecursion IsCalm line → IsBodyLine line
calm_line line h =
    let digits = all_weaker IsCalm (λ c. is_digit c ≡ false) (λ c x. not_true (is_digit c) (and_parts (not (is_digit c)) (not (c == 36)) x).0) line h in
    let dollars = all_line (λ c. (c == 36) ≡ false) line (all_weaker IsCalm (λ c. (c == 36) ≡ false) (λ c x. not_true (c == 36) (and_parts (not (is_digit c)) (not (c == 36)) x).1) line h) in
    let t = line_of line in
    (middle_none (length t == 2) (slice_index t 0 == 36) (slice_index t 1 == 36) (all_at (λ c. c == 36) refl t 0 dollars), no_digit_no_heading line digits)

calm_lines : (lines : List (List ℕ)) → AllByRecursion (AllByRecursion IsCalm) lines → AllByRecursion IsBodyLine lines
calm_lines [] h = tt
calm_lines (line ∷ lines) h = (calm_line line h.0, calm_lines lines h.1)

ended_calm : (t : List ℕ) → list_all is_calm t ≡ true → list_all is_calm (names_text t) ≡ true
ended_calm [] h = refl
ended_calm (c ∷ t) h = calm_both (c ∷ t) (10 ∷ []) h refl

pub lines_calm : (t : List ℕ) → list_all is_calm t ≡ true → AllByRecursion IsBodyLine (lines_in (names_text t))
lines_calm t h = calm_lines (lines_in (names_text t)) (lines_have IsCalm (names_text t) (calm_to (names_text t) (ended_calm t h)))

pub names_calm : (names : List (List ℕ)) → AllByRecursion (λ n. list_all is_calm n ≡ true) names → list_all is_calm (name_lines names) ≡ true
names_calm names h = lines_pass is_calm refl refl names (All-from_recursion (λ n. list_all is_calm n ≡ true) names h)
