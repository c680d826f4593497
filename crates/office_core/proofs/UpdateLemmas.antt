-- The first item that passes a test becomes another, at the place of the test.
use Rattle.std.proofs.Common.{◌≡◌, ◌∙◌, ◌<◌, ◌≤◌, ◌+◌, ℕ, zero, suc, Bool, true, false, cond, not, ltb, if◌then◌else◌, List, [], ◌∷◌, length, set, get_or, Some, None, refl, ap, sym, arith, rules}
use Rattle.std.specs.List.{position, position_or_len}
use Rattle.std.proofs.lemmas.Bool.{ltb-false}
use Rattle.std.proofs.lemmas.List.Quantifiers.{position-Some}

pub none_is_some : (n : ℕ) → None ≡ Some n → ⊥
none_is_some n h = search (rules, h)

pub some_is_none : (n : ℕ) → Some n ≡ None → ⊥
some_is_none n h = search (rules, h)

unplaced : (b : Bool) (n : ℕ) → cond b (Some n) None ≡ None → b ≡ false
unplaced true n h = absurd (some_is_none n h)
unplaced false n h = refl

module _ {X : Type 0} (test : X → Bool) where
  -- no item passes the test
  pub lacking : (xs : List X) → position test xs ≡ None → length xs ≤ position_or_len test xs
  lacking xs h = ltb-false (position_or_len test xs) (length xs) (unplaced (ltb (position_or_len test xs) (length xs)) (position_or_len test xs) h)

module _ {X : Type 0} (test : X → Bool) (change : X → X) where
  abbrev pub updated : List X → List X
  updated [] = []
  updated (x ∷ xs) = if test x then change x ∷ xs else x ∷ updated xs

  updated_from : (xs : List X) (i : ℕ) (y : X) → i < length xs → test y ≡ true → y ≡ get_or xs i y →
      ((k : ℕ) → k < i → test (get_or xs k y) ≡ false) → set xs i (change y) ≡ updated xs
  updated_from [] i y lt t e h = absurd (omega arith)
  updated_from (x ∷ xs) zero y lt t e h =
      let here : test x ≡ true = ap test (sym e) ∙ t in
      rw here (ap (λ (z : X). change z ∷ xs) e)
  updated_from (x ∷ xs) (suc i) y lt t e h =
      let there : test x ≡ false = h 0 (omega arith) in
      rw there (ap (λ (rest : List X). x ∷ rest) (updated_from xs i y (omega arith) t e (λ k less. h (suc k) (omega (arith, less)))))

  -- the item at the place becomes another
  pub updated_at : (xs : List X) (i : ℕ) (y : X) → position test xs ≡ Some i → y ≡ get_or xs i y → set xs i (change y) ≡ updated xs
  updated_at xs i y e is =
      let p = position-Some test xs i y e in
      updated_from xs i y p.0 (ap test is ∙ p.1) is p.2

  unchanged : (b : Bool) (x : X) (xs rest : List X) (n m : ℕ) → suc n ≤ cond (not b) (1 + m) 0 → (n ≤ m → xs ≡ rest) → x ∷ xs ≡ (if b then change x ∷ xs else (x ∷ rest))
  unchanged true x xs rest n m h k = absurd (omega (arith, h))
  unchanged false x xs rest n m h k = ap (λ (more : List X). x ∷ more) (k (omega (arith, h)))

  updated_short : (xs : List X) → length xs ≤ position_or_len test xs → xs ≡ updated xs
  updated_short [] h = refl
  updated_short (x ∷ xs) h = unchanged (test x) x xs (updated xs) (length xs) (position_or_len test xs) h (updated_short xs)

  -- without such an item the list stays
  pub updated_none : (xs : List X) → position test xs ≡ None → xs ≡ updated xs
  updated_none xs h = updated_short xs (lacking test xs h)
