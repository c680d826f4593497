-- The first place at which a test passes, as an option and as a number.
use Rattle.std.proofs.Common.{◌≡◌, ℕ, ◌+◌, ◌-◌, inl, inr, Bool, List, length, take, drop, Option, Some, None, sym, ap, ◌∙◌, arith, not, []}
use Rattle.std.specs.List.{position, position_or_len, before_first, after_first}
use Rattle.std.proofs.lemmas.Bool.{cases_lt, lt-ltb, le-ltb}
use Rattle.std.proofs.lemmas.List.{take_rest}
use Rattle.std.proofs.lemmas.List.Sums.{prefix_len-le-length}
use Rattle.std.proofs.Math.Seq.{take-length, drop-length}
use Rattle.std.proofs.Math.ListN.{drop_of_length-le}

module _ {X : Type 0} where
  pub at_some : (p : X → Bool) (xs : List X) (i : ℕ) → Some i ≡ position p xs → position_or_len p xs ≡ i
  at_some p xs i e =
      elim (cases_lt (position_or_len p xs) (length xs)) [
        | inl lt ↦ let found : Some i ≡ Some (position_or_len p xs) = rw (lt-ltb _ _ lt) at e in cc
        | inr le ↦ let none : Some i ≡ None = rw (le-ltb _ _ le) at e in cc
      ]

  pub at_none : (p : X → Bool) (xs : List X) → ◌≡◌ {A = Option ℕ} None (position p xs) → position_or_len p xs ≡ length xs
  at_none p xs e =
      elim (cases_lt (position_or_len p xs) (length xs)) [
        | inl lt ↦ let found : None ≡ Some (position_or_len p xs) = rw (lt-ltb _ _ lt) at e in cc
        | inr le ↦ let most = prefix_len-le-length (λ x. not (p x)) xs in omega arith
      ]

  pub taken : (p : X → Bool) (xs : List X) (i : ℕ) → Some i ≡ position p xs → take i xs ≡ before_first p xs
  taken p xs i e = ap (λ (k : ℕ). take k xs) (sym (at_some p xs i e))

  pub dropped : (p : X → Bool) (xs : List X) (i : ℕ) → Some i ≡ position p xs → take (length xs - i) (drop i xs) ≡ drop (position_or_len p xs) xs
  dropped p xs i e = take_rest xs i ∙ ap (λ (k : ℕ). drop k xs) (sym (at_some p xs i e))

  pub taken_whole : (p : X → Bool) (xs : List X) → ◌≡◌ {A = Option ℕ} None (position p xs) → xs ≡ before_first p xs
  taken_whole p xs e = sym (take-length xs) ∙ ap (λ (k : ℕ). take k xs) (sym (at_none p xs e))

  pub dropped_whole : (p : X → Bool) (xs : List X) → ◌≡◌ {A = Option ℕ} None (position p xs) → take (length xs - length xs) (drop (length xs) xs) ≡ drop (position_or_len p xs) xs
  dropped_whole p xs e = take_rest xs (length xs) ∙ ap (λ (k : ℕ). drop k xs) (sym (at_none p xs e))

  pub empty_end : (xs : List X) → take (length xs - length xs) (drop (length xs) xs) ≡ []
  empty_end xs = take_rest xs (length xs) ∙ drop-length xs

  pub behind : (p : X → Bool) (xs : List X) (i : ℕ) → Some i ≡ position p xs → take (length xs - (i + 1)) (drop (i + 1) xs) ≡ after_first p xs
  behind p xs i e = take_rest xs (i + 1) ∙ ap (λ (k : ℕ). drop (k + 1) xs) (sym (at_some p xs i e))

  pub none_behind : (p : X → Bool) (xs : List X) → ◌≡◌ {A = Option ℕ} None (position p xs) → after_first p xs ≡ []
  none_behind p xs e = let at = at_none p xs e in drop_of_length-le xs (omega arith)

  pub none_left : (p : X → Bool) (xs : List X) → ◌≡◌ {A = Option ℕ} None (position p xs) → drop (position_or_len p xs) xs ≡ []
  none_left p xs e = let at = at_none p xs e in drop_of_length-le xs (omega arith)
