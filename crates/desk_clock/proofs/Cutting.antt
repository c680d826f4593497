-- What the cuts leave are words, blanks and the rest.
use Rattle.std.proofs.Common.{◌≡◌, ◌≢◌, ℕ, ◌⊎◌, ◌==◌, inl, inr, Bool, true, false, not, List, [], ◌∷◌, ◌++◌, drop, refl, sym, ap, ◌∙◌, suc, add-one}
use Rattle.std.specs.List.{position_or_len, list_any, list_all, before_first, after_first}
use Rattle.std.proofs.lemmas.List.{take-append-drop}
use Rattle.std.proofs.Math.Numerals.{one-add}
use Rattle.std.proofs.lemmas.Bool.{eqb-true}
use Rattle.desk_clock.specs.Words.{begins_with, IsWord, IsAside, first_word, past_blanks, after_word, past_gap, after_slash, after_aside}
use Rattle.hazard_types.specs.Characters.{is_blank}

pub split : (b : Bool) → (b ≡ true) ⊎ (b ≡ false)
split true = inl refl
split false = inr refl

prefix_fails : (p : ℕ → Bool) (b : List ℕ) → list_any p (before_first p b) ≡ false
prefix_fails p [] = refl
prefix_fails p (x ∷ xs) = elim (split (p x)) [
  | inl h ↦ rw h refl
  | inr h ↦ rw (h, one-add, h) (prefix_fails p xs)
]

whole : (p : ℕ → Bool) (b : List ℕ) → b ≡ before_first p b ++ drop (position_or_len p b) b
whole p b = sym (take-append-drop (position_or_len p b) b)

onward_of : (b : List ℕ) → begins_with is_blank (past_blanks b) ≡ false
onward_of [] = refl
onward_of (x ∷ xs) = elim (split (is_blank x)) [
  | inl h ↦ rw (h, one-add) (onward_of xs)
  | inr h ↦ rw h h
]

-- the blanks that begin these bytes
abbrev blanks_of : List ℕ → List ℕ
blanks_of b = before_first (λ c. not (is_blank c)) b

blanks_are : (b : List ℕ) → list_all is_blank (blanks_of b) ≡ true
blanks_are [] = refl
blanks_are (x ∷ xs) = elim (split (is_blank x)) [
  | inl h ↦ rw (h, one-add, h) (blanks_are xs)
  | inr h ↦ rw h refl
]

left_blank : (b : List ℕ) → (drop (position_or_len is_blank b) b ≡ []) ⊎ (begins_with is_blank (drop (position_or_len is_blank b) b) ≡ true)
left_blank [] = inl refl
left_blank (x ∷ xs) = elim (split (is_blank x)) [
  | inl h ↦ rw h (inr h)
  | inr h ↦ rw (h, one-add) (left_blank xs)
]

gap_there : (b : List ℕ) → begins_with is_blank b ≡ true → blanks_of b ≢ []
gap_there [] h e = cc
gap_there (x ∷ xs) h e = let found = rw (h, one-add) at e in cc

pub is_word : (b : List ℕ) → after_word b ≢ [] → IsWord (first_word b) b (after_word b)
is_word b some =
    let left : List ℕ = drop (position_or_len is_blank b) b in
    elim (left_blank b) [
      | inl none ↦ absurd (some (ap past_blanks none))
      | inr begins ↦ record {
        gap = blanks_of left;
        text = whole is_blank b ∙ ap (λ (t : List ℕ). first_word b ++ t) (whole (λ c. not (is_blank c)) left);
        unbroken = prefix_fails is_blank b;
        parted = gap_there left begins;
        blanks = blanks_are left;
        onward = onward_of left;
      }
    ]

pub some_before : (b : List ℕ) → after_word b ≢ [] → b ≢ []
some_before b some e = some (ap after_word e)

pub some_aside : (b : List ℕ) → after_aside b ≢ [] → b ≢ []
some_aside b some e = some (ap after_aside e)

abbrev slash : ℕ → Bool
slash c = c == 47

abbrev Slashed : List ℕ → Type 0
Slashed b = (drop (suc (position_or_len slash b)) b ≡ []) ⊎ (b ≡ before_first slash b ++ (47 ∷ drop (suc (position_or_len slash b)) b))

one_longer : (x : ℕ) (xs : List ℕ) → Slashed xs → (drop (suc (position_or_len slash xs)) xs ≡ []) ⊎ (x ∷ xs ≡ (x ∷ before_first slash xs) ++ (47 ∷ drop (suc (position_or_len slash xs)) xs))
one_longer x xs (inl e) = inl e
one_longer x xs (inr e) = inr (ap (λ (t : List ℕ). x ∷ t) e)

slashed : (b : List ℕ) → Slashed b
slashed [] = inl refl
slashed (x ∷ xs) = elim (split (x == 47)) [
  | inl h ↦ rw h (inr (ap (λ (c : ℕ). c ∷ xs) (eqb-true x 47 h)))
  | inr h ↦ rw (h, one-add) (one_longer x xs (slashed xs))
]

aside_there : (xs u : List ℕ) → u ≡ drop (suc (position_or_len slash xs)) xs → past_gap u ≢ [] → IsAside (47 ∷ xs) (past_gap u)
aside_there xs u same some =
    elim (split (begins_with is_blank u)) [
      | inr none ↦ absurd (some (rw none refl))
      | inl begins ↦
          elim (slashed xs) [
            | inl none ↦ absurd (some (ap past_gap (same ∙ none)))
            | inr cut ↦
                let inside : List ℕ = before_first slash xs in
                let text : 47 ∷ xs ≡ 47 ∷ (inside ++ (47 ∷ (blanks_of u ++ past_blanks u))) =
                ap (λ (t : List ℕ). 47 ∷ t) (cut ∙ ap (λ (t : List ℕ). inside ++ (47 ∷ t)) (sym same ∙ whole (λ c. not (is_blank c)) u)) in
                rw begins (record {
                  inside = inside;
                  gap = blanks_of u;
                  text = text;
                  unbroken = prefix_fails slash xs;
                  parted = gap_there u begins;
                  blanks = blanks_are u;
                  onward = onward_of u;
                })
          ]
    ]

aside_at : (x : ℕ) (xs : List ℕ) → x ≡ 47 → after_slash xs ≢ [] → IsAside (x ∷ xs) (after_slash xs)
aside_at x xs e some = rw e (aside_there xs (after_first slash xs) (ap (λ (k : ℕ). drop k xs) (add-one (position_or_len slash xs))) some)

pub is_aside : (b : List ℕ) → after_aside b ≢ [] → ((begins_with (λ c. c == 47) b ≡ false) × (b ≡ after_aside b)) ⊎ IsAside b (after_aside b)
is_aside [] some = absurd (some refl)
is_aside (x ∷ xs) some = elim (split (x == 47)) [
  | inl h ↦ rw h (inr (aside_at x xs (eqb-true x 47 h) (rw h at some)))
  | inr h ↦ rw h (inl (refl, refl))
]
