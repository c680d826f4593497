-- Tables of codes: the value of a code, and the code of a value.
use Rattle.std.specs.Prelude.{◌≡◌, ◌≢◌, ◌==◌, ◌++◌, ◌-◌, ◌⊎◌, ℕ, Bool, true, List, [], ◌∷◌, length, Option, Some, None, if◌then◌else◌, replicate}
use Rattle.std.specs.List.{before_first, AllByRecursion}
use Rattle.std.specs.Str.{bytes_eq}
use Rattle.hazard_types.specs.declared.codes.Coded.{Coded}

-- the characters of a code before its first blank
abbrev pub without_padding : List ℕ → List ℕ
without_padding code = before_first (λ c. c == 32) code

-- a code filled up with blanks to four characters
abbrev pub filled : List ℕ → List ℕ
filled text = text ++ replicate (4 - length text) 32

-- one to four characters that are no blank, filled up with blanks to four
pub record IsCode (code : List ℕ) : Type 0 where
  pub some : without_padding code ≢ []
  pub whole : filled (without_padding code) ≡ code
  pub four : length code ≡ 4

-- an `==` that holds of identical values alone
abbrev pub HoldsOfIdentical : {T : Type 0} → (T → T → Bool) → Type 0
HoldsOfIdentical {T} same = (a b : T) → same a b ≡ true → a ≡ b

module _ {T : Type 0} where
  -- the value of the first row with this code
  abbrev pub value_for_code : List (Coded T) → List ℕ → Option T
  value_for_code [] code = None
  value_for_code (row ∷ rows) code =
      if bytes_eq (without_padding row.code) code then Some row.value else value_for_code rows code

  -- the code of the first row with this value
  abbrev pub code_for_value : (T → T → Bool) → List (Coded T) → T → Option (List ℕ)
  code_for_value same [] value = None
  code_for_value same (row ∷ rows) value =
      if same row.value value then Some row.code else code_for_value same rows value

  -- a row has the property
  abbrev pub SomeRow : (Coded T → Type 0) → List (Coded T) → Type 0
  SomeRow P [] = ⊥
  SomeRow P (row ∷ rows) = P row ⊎ SomeRow P rows

  -- no row of these has the code of this row, and none has its value
  abbrev pub StandsAlone : Coded T → List (Coded T) → Type 0
  StandsAlone row rows =
      AllByRecursion (λ (other : Coded T). (row.code ≢ other.code) × (row.value ≢ other.value)) rows

  -- each code has its form, and no two rows have the same code or the same value
  abbrev pub IsTable : List (Coded T) → Type 0
  IsTable [] = Unit {0}
  IsTable (row ∷ rows) = IsCode row.code × StandsAlone row rows × IsTable rows
