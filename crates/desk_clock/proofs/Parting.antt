-- Words that blanks part are the first word and what stands after it.
use Rattle.std.proofs.Common.{◌≡◌, ◌≢◌, ℕ, suc, ◌+◌, ◌⊎◌, ◌==◌, ◌||◌, inl, inr, Bool, true, false, not, List, [], ◌∷◌, ◌++◌, length, take, drop, refl, ap, ◌∙◌, arith, add-one}
use Rattle.std.specs.List.{position_or_len, list_any, list_all, after_first}
use Rattle.std.proofs.lemmas.Bool.{and_parts}
use Rattle.desk_clock.specs.Words.{begins_with, IsWord, IsAside, first_word, past_blanks, after_word, past_gap, after_aside}
use Rattle.hazard_types.specs.Characters.{is_blank}

or_parts : (x y : Bool) → (x || y) ≡ false → (x ≡ false) × (y ≡ false)
or_parts true y h = cc
or_parts false y h = (refl, h)

-- the first place that passes lies behind what does not
at_end : (p : ℕ → Bool) (w rest : List ℕ) → list_any p w ≡ false → begins_with p rest ≡ true → position_or_len p (w ++ rest) ≡ length w
at_end p [] [] h b = cc
at_end p [] (x ∷ xs) h b = rw b refl
at_end p (x ∷ w) rest h b =
    let parts = or_parts (p x) (list_any p w) h in
    rw parts.0 (rw (at_end p w rest parts.1 b) (omega arith))

past_gap_at : (g rest : List ℕ) → list_all is_blank g ≡ true → begins_with is_blank rest ≡ false → position_or_len (λ c. not (is_blank c)) (g ++ rest) ≡ length g
past_gap_at [] [] h b = refl
past_gap_at [] (x ∷ xs) h b = rw b refl
past_gap_at (x ∷ g) rest h b =
    let parts = and_parts (is_blank x) (list_all is_blank g) h in
    rw parts.0 (rw (past_gap_at g rest parts.1 b) (omega arith))

front : (w rest : List ℕ) → take (length w) (w ++ rest) ≡ w
front [] rest = refl
front (x ∷ w) rest = ap (λ (t : List ℕ). x ∷ t) (front w rest)

behind : (w rest : List ℕ) → drop (length w) (w ++ rest) ≡ rest
behind [] rest = refl
behind (x ∷ w) rest = behind w rest

gap_begins : (gap rest : List ℕ) → gap ≢ [] → list_all is_blank gap ≡ true → begins_with is_blank (gap ++ rest) ≡ true
gap_begins [] rest some h = absurd (some refl)
gap_begins (x ∷ gap) rest some h = (and_parts (is_blank x) (list_all is_blank gap) h).0

past : (gap rest : List ℕ) → list_all is_blank gap ≡ true → begins_with is_blank rest ≡ false → past_blanks (gap ++ rest) ≡ rest
past gap rest h b = ap (λ (k : ℕ). drop k (gap ++ rest)) (past_gap_at gap rest h b) ∙ behind gap rest

pub first_of : (w b rest : List ℕ) → IsWord w b rest → first_word b ≡ w
first_of w b rest is =
    let at : position_or_len is_blank (w ++ (is.gap ++ rest)) ≡ length w = at_end is_blank w (is.gap ++ rest) is.unbroken (gap_begins is.gap rest is.parted is.blanks) in
    rw is.text (ap (λ (k : ℕ). take k (w ++ (is.gap ++ rest))) at ∙ front w (is.gap ++ rest))

pub after_of : (w b rest : List ℕ) → IsWord w b rest → after_word b ≡ rest
after_of w b rest is =
    let at : position_or_len is_blank (w ++ (is.gap ++ rest)) ≡ length w = at_end is_blank w (is.gap ++ rest) is.unbroken (gap_begins is.gap rest is.parted is.blanks) in
    rw is.text (ap (λ (k : ℕ). past_blanks (drop k (w ++ (is.gap ++ rest)))) at ∙ ap past_blanks (behind w (is.gap ++ rest)) ∙ past is.gap rest is.blanks is.onward)

no_slash : (b : List ℕ) → begins_with (λ c. c == 47) b ≡ false → after_aside b ≡ b
no_slash [] h = refl
no_slash (x ∷ xs) h = rw h refl

behind_next : (inside rest : List ℕ) → drop (suc (length inside)) (inside ++ (47 ∷ rest)) ≡ rest
behind_next [] rest = refl
behind_next (x ∷ inside) rest = behind_next inside rest

behind_slash : (inside rest : List ℕ) → drop (length inside + 1) (inside ++ (47 ∷ rest)) ≡ rest
behind_slash inside rest = rw add-one (behind_next inside rest)

aside_of : (b rest : List ℕ) → IsAside b rest → after_aside b ≡ rest
aside_of b rest is =
    let inner = is.inside ++ (47 ∷ (is.gap ++ rest)) in
    let at : position_or_len (λ c. c == 47) inner ≡ length is.inside = at_end (λ c. c == 47) is.inside (47 ∷ (is.gap ++ rest)) is.unbroken refl in
    let after : after_first (λ c. c == 47) inner ≡ is.gap ++ rest = ap (λ (k : ℕ). drop (k + 1) inner) at ∙ behind_slash is.inside (is.gap ++ rest) in
    let gap : past_gap (is.gap ++ rest) ≡ rest = rw (gap_begins is.gap rest is.parted is.blanks) (past is.gap rest is.blanks is.onward) in
    rw is.text (ap past_gap after ∙ gap)

pub after_optional : (b rest : List ℕ) → ((begins_with (λ c. c == 47) b ≡ false) × (b ≡ rest)) ⊎ IsAside b rest → after_aside b ≡ rest
after_optional b rest (inl (none, same)) = no_slash b none ∙ same
after_optional b rest (inr is) = aside_of b rest is
