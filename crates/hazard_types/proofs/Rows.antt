-- What a look-up in the rows of a table finds, and that the two ways are inverse.
use Rattle.std.proofs.Common.{◌≡◌, ◌≢◌, ℕ, Bool, true, false, List, [], ◌∷◌, Some, None, refl, ap, sym, ◌∙◌, cond, inl, inr}
use Rattle.std.specs.Str.{bytes_eq}
use Rattle.std.proofs.lemmas.Slice.Eq.{bytes_eq-Decides}
use Rattle.hazard_types.specs.declared.codes.Coded.{Coded}
use Rattle.hazard_types.specs.Codes.{without_padding, filled, HoldsOfIdentical, value_for_code, code_for_value, SomeRow, StandsAlone, IsTable}

some_is : {X : Type 0} {a b : X} → Some a ≡ Some b → a ≡ b
some_is e = cc

true_or_false : {X : Type 0} (b : Bool) → b ≡ true → b ≡ false → X
true_or_false b t f = absurd (cc)

module _ {T : Type 0} where
  value_found_if : (row : Coded T) (rows : List (Coded T)) (code : List ℕ) (v : T) (b : Bool) → bytes_eq (without_padding row.code) code ≡ b → (value_for_code rows code ≡ Some v → SomeRow (λ r. (without_padding r.code ≡ code) × (r.value ≡ v)) rows) → cond b (Some row.value) (value_for_code rows code) ≡ Some v → SomeRow (λ r. (without_padding r.code ≡ code) × (r.value ≡ v)) (row ∷ rows)
  value_found_if row rows code v true e later h = inl ((bytes_eq-Decides _ _).0 e, some_is h)
  value_found_if row rows code v false e later h = inr (later h)

  -- the value that is found stands beside the code
  pub value_found : (rows : List (Coded T)) (code : List ℕ) (v : T) → value_for_code rows code ≡ Some v → SomeRow (λ r. (without_padding r.code ≡ code) × (r.value ≡ v)) rows
  value_found [] code v h = cc
  value_found (row ∷ rows) code v h = value_found_if row rows code v (bytes_eq (without_padding row.code) code) refl (value_found rows code v) h

  value_missed_if : (row : Coded T) (rows : List (Coded T)) (code : List ℕ) (b : Bool) → bytes_eq (without_padding row.code) code ≡ b → (value_for_code rows code ≡ None → ¬ SomeRow (λ r. without_padding r.code ≡ code) rows) → cond b (Some row.value) (value_for_code rows code) ≡ None → ¬ SomeRow (λ r. without_padding r.code ≡ code) (row ∷ rows)
  value_missed_if row rows code true e later h s = cc
  value_missed_if row rows code false e later h (inl s) = true_or_false _ ((bytes_eq-Decides _ _).1 s) e
  value_missed_if row rows code false e later h (inr s) = later h s

  -- where none is found, no row has the code
  pub value_missed : (rows : List (Coded T)) (code : List ℕ) → value_for_code rows code ≡ None → ¬ SomeRow (λ r. without_padding r.code ≡ code) rows
  value_missed [] code h s = s
  value_missed (row ∷ rows) code h s = value_missed_if row rows code (bytes_eq (without_padding row.code) code) refl (value_missed rows code) h s

  code_found_if : (same : T → T → Bool) → HoldsOfIdentical same → (row : Coded T) (rows : List (Coded T)) (v : T) (code : List ℕ) (b : Bool) → same row.value v ≡ b → (code_for_value same rows v ≡ Some code → SomeRow (λ r. (r.code ≡ code) × (r.value ≡ v)) rows) → cond b (Some row.code) (code_for_value same rows v) ≡ Some code → SomeRow (λ r. (r.code ≡ code) × (r.value ≡ v)) (row ∷ rows)
  code_found_if same one row rows v code true e later h = inl (some_is h, one _ _ e)
  code_found_if same one row rows v code false e later h = inr (later h)

  -- the code that is found stands beside the value
  pub code_found : (same : T → T → Bool) → HoldsOfIdentical same → (rows : List (Coded T)) (v : T) (code : List ℕ) → code_for_value same rows v ≡ Some code → SomeRow (λ r. (r.code ≡ code) × (r.value ≡ v)) rows
  code_found same one [] v code h = cc
  code_found same one (row ∷ rows) v code h = code_found_if same one row rows v code (same row.value v) refl (code_found same one rows v code) h

  code_missed_if : (same : T → T → Bool) → ((x : T) → same x x ≡ true) → (row : Coded T) (rows : List (Coded T)) (v : T) (b : Bool) → same row.value v ≡ b → (code_for_value same rows v ≡ None → ¬ SomeRow (λ r. r.value ≡ v) rows) → cond b (Some row.code) (code_for_value same rows v) ≡ None → ¬ SomeRow (λ r. r.value ≡ v) (row ∷ rows)
  code_missed_if same itself row rows v true e later h s = cc
  code_missed_if same itself row rows v false e later h (inl s) = true_or_false _ (ap (λ x. same x v) s ∙ itself v) e
  code_missed_if same itself row rows v false e later h (inr s) = later h s

  -- where none is found, no row has the value
  pub code_missed : (same : T → T → Bool) → ((x : T) → same x x ≡ true) → (rows : List (Coded T)) (v : T) → code_for_value same rows v ≡ None → ¬ SomeRow (λ r. r.value ≡ v) rows
  code_missed same itself [] v h s = s
  code_missed same itself (row ∷ rows) v h s = code_missed_if same itself row rows v (same row.value v) refl (code_missed same itself rows v) h s

  -- what stands in these rows is not what stands alone before them
  other_value : (row : Coded T) (rows : List (Coded T)) (code : List ℕ) (v : T) → StandsAlone row rows → SomeRow (λ r. (without_padding r.code ≡ code) × (r.value ≡ v)) rows → row.value ≢ v
  other_value row [] code v alone s e = s
  other_value row (r ∷ rows) code v alone (inl s) e = alone.0.1 (e ∙ sym s.1)
  other_value row (r ∷ rows) code v alone (inr s) e = other_value row rows code v alone.1 s e

  other_code : (row : Coded T) (rows : List (Coded T)) (code : List ℕ) (v : T) → StandsAlone row rows → SomeRow (λ r. (r.code ≡ code) × (r.value ≡ v)) rows → row.code ≢ code
  other_code row [] code v alone s e = s
  other_code row (r ∷ rows) code v alone (inl s) e = alone.0.0 (e ∙ sym s.0)
  other_code row (r ∷ rows) code v alone (inr s) e = other_code row rows code v alone.1 s e

  code_in_rows : (rows : List (Coded T)) (code : List ℕ) (v : T) → IsTable rows → SomeRow (λ r. (r.code ≡ code) × (r.value ≡ v)) rows → filled (without_padding code) ≡ code
  code_in_rows [] code v table s = absurd s
  code_in_rows (row ∷ rows) code v table (inl s) = rw (sym s.0) table.0.whole
  code_in_rows (row ∷ rows) code v table (inr s) = code_in_rows rows code v table.2 s

  read_back_if : (same : T → T → Bool) → HoldsOfIdentical same → ((x : T) → same x x ≡ true) → (row : Coded T) (rows : List (Coded T)) (code : List ℕ) (v : T) (a b : Bool) → bytes_eq (without_padding row.code) code ≡ a → same row.value v ≡ b → IsTable (row ∷ rows) → (value_for_code rows code ≡ Some v → code_for_value same rows v ≡ Some (filled code)) → cond a (Some row.value) (value_for_code rows code) ≡ Some v → cond b (Some row.code) (code_for_value same rows v) ≡ Some (filled code)
  read_back_if same one itself row rows code v true true p q table later h = ap Some (sym table.0.whole ∙ ap filled {x = without_padding row.code} {y = code} ((bytes_eq-Decides _ _).0 p))
  read_back_if same one itself row rows code v true false p q table later h = true_or_false _ (ap (λ x. same x v) (some_is h) ∙ itself v) q
  read_back_if same one itself row rows code v false true p q table later h = absurd (other_value row rows code v table.1 (value_found rows code v h) (one _ _ q))
  read_back_if same one itself row rows code v false false p q table later h = later h

  -- a code that is found is the code of its value
  pub read_back : (same : T → T → Bool) → HoldsOfIdentical same → ((x : T) → same x x ≡ true) → (rows : List (Coded T)) (code : List ℕ) (v : T) → IsTable rows → value_for_code rows code ≡ Some v → code_for_value same rows v ≡ Some (filled code)
  read_back same one itself [] code v table h = cc
  read_back same one itself (row ∷ rows) code v table h = read_back_if same one itself row rows code v (bytes_eq (without_padding row.code) code) (same row.value v) refl refl table (read_back same one itself rows code v table.2) h

  written_back_if : (same : T → T → Bool) → HoldsOfIdentical same → (row : Coded T) (rows : List (Coded T)) (code : List ℕ) (v : T) (a b : Bool) → bytes_eq (without_padding row.code) (without_padding code) ≡ a → same row.value v ≡ b → IsTable (row ∷ rows) → (code_for_value same rows v ≡ Some code → value_for_code rows (without_padding code) ≡ Some v) → cond b (Some row.code) (code_for_value same rows v) ≡ Some code → cond a (Some row.value) (value_for_code rows (without_padding code)) ≡ Some v
  written_back_if same one row rows code v true true p q table later h = ap Some (one _ _ q)
  written_back_if same one row rows code v false true p q table later h = true_or_false _ ((bytes_eq-Decides _ _).1 (ap without_padding (some_is h))) p
  written_back_if same one row rows code v true false p q table later h =
      let found = code_found same one rows v code h in
      let whole : filled (without_padding code) ≡ code = code_in_rows rows code v table.2 found in
      absurd (other_code row rows code v table.1 found (sym table.0.whole ∙ ap filled {x = without_padding row.code} {y = without_padding code} ((bytes_eq-Decides _ _).0 p) ∙ whole))
  written_back_if same one row rows code v false false p q table later h = later h

  -- the code of a value is found beside it
  pub written_back : (same : T → T → Bool) → HoldsOfIdentical same → (rows : List (Coded T)) (code : List ℕ) (v : T) → IsTable rows → code_for_value same rows v ≡ Some code → value_for_code rows (without_padding code) ≡ Some v
  written_back same one [] code v table h = cc
  written_back same one (row ∷ rows) code v table h = written_back_if same one row rows code v (bytes_eq (without_padding row.code) (without_padding code)) (same row.value v) refl refl table (written_back same one rows code v table.2) h
