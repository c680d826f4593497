-- Words of a line, which blanks part. A blank is a space or a tab.
use Rattle.std.specs.Prelude.{◌≡◌, ◌≢◌, ◌==◌, ℕ, Bool, true, false, not, List, [], ◌∷◌, ◌++◌, drop, if◌then◌else◌}
use Rattle.hazard_types.specs.Characters.{is_blank}
use Rattle.std.specs.List.{position_or_len, before_first, after_first, list_all, list_any}

abbrev pub begins_with : (ℕ → Bool) → List ℕ → Bool
begins_with p [] = false
begins_with p (c ∷ cs) = p c

-- b is the word, one or more blanks, and then the rest, which begins with no blank
pub record IsWord (word b rest : List ℕ) : Type 0 where
  pub gap : List ℕ
  pub text : b ≡ word ++ (gap ++ rest)
  pub unbroken : list_any is_blank word ≡ false
  pub parted : gap ≢ []
  pub blanks : list_all is_blank gap ≡ true
  pub onward : begins_with is_blank rest ≡ false

-- what stands before the first blank
abbrev pub first_word : List ℕ → List ℕ
first_word b = before_first is_blank b

abbrev pub past_blanks : List ℕ → List ℕ
past_blanks b = drop (position_or_len (λ c. not (is_blank c)) b) b

-- what stands after the first word and the blanks behind it
abbrev pub after_word : List ℕ → List ℕ
after_word b = past_blanks (drop (position_or_len is_blank b) b)

-- a part between slashes and the blanks behind it, or none
pub record IsAside (b rest : List ℕ) : Type 0 where
  pub inside : List ℕ
  pub gap : List ℕ
  pub text : b ≡ 47 ∷ (inside ++ (47 ∷ (gap ++ rest)))
  pub unbroken : list_any (λ c. c == 47) inside ≡ false
  pub parted : gap ≢ []
  pub blanks : list_all is_blank gap ≡ true
  pub onward : begins_with is_blank rest ≡ false

-- what stands after the blanks that begin b; nothing, where none does
abbrev pub past_gap : List ℕ → List ℕ
past_gap b = if begins_with is_blank b then past_blanks b else []

-- what stands after the slash at the end of the part, and the blanks behind it
abbrev pub after_slash : List ℕ → List ℕ
after_slash b = past_gap (after_first (λ c. c == 47) b)

-- what stands after an optional part between slashes; nothing, where such a part does not end, or no blank stands behind it
abbrev pub after_aside : List ℕ → List ℕ
after_aside [] = []
after_aside (c ∷ cs) = if c == 47 then after_slash cs else c ∷ cs
