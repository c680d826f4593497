-- The values of the tables of codes are all there are, so what holds of each row holds of every value; and the letters that are written are those of the tables.
use Rattle.std.proofs.Common.{◌≡◌, ◌∙◌, ℕ, suc, ◌+◌, List, [], ◌∷◌, length, refl, sym, ap, subst, arith, rules, Some, inl, inr}
use Rattle.std.specs.Prelude.{slice_index}
use Rattle.std.specs.List.{AllByRecursion}
use Rattle.std.specs.Str.{bytes_eq}
use Rattle.std.proofs.lemmas.Bool.{cases_Bool}
use Rattle.std.proofs.lemmas.Option.{same_Some, none-some}
use Rattle.std.proofs.lemmas.Slice.Eq.{bytes_eq-Decides}
use denote.Struct.Field.{Field}
use denote.Enum.Enum.{Sum, tag}
use denote.Enum.Declared.{Declared, rowss, tag_of}
use denote.Enum.Bare.{Bare, tag_one}
use Rattle.hazard_types.specs.Codes.{without_padding, value_for_code}
use Rattle.hazard_types.specs.Letters.{class_code, action_code, sig_code, severity_code, status_code}
use Rattle.hazard_types.specs.Tables.{class_rows, action_rows, sig_rows, severity_rows, status_rows}
use Rattle.hazard_types.specs.contracts.codes.Action as action_type
use Rattle.hazard_types.specs.contracts.codes.Class as class_type
use Rattle.hazard_types.specs.contracts.codes.Severity as severity_type
use Rattle.hazard_types.specs.contracts.codes.Status as status_type
use Rattle.hazard_types.specs.contracts.hazard.Sig as sig_type
use Rattle.hazard_types.specs.declared.codes.Action.{Action}
use Rattle.hazard_types.specs.declared.codes.Class.{Class}
use Rattle.hazard_types.specs.declared.codes.Coded.{Coded}
use Rattle.hazard_types.specs.declared.codes.Severity.{Severity}
use Rattle.hazard_types.specs.declared.codes.Status.{Status}
use Rattle.hazard_types.specs.declared.hazard.Sig.{Sig}

-- ---- every value has a row

-- the rows have the variants of an enum in their order
abbrev InOrder : (D : Declared) → ℕ → List (List Field) → List (Coded D.D) → Type 0
InOrder D n [] rows = Unit {0}
InOrder D n (Fs ∷ parts) [] = ⊥
InOrder D n (Fs ∷ parts) (row ∷ rows) = (tag_of D row.value ≡ n) × InOrder D (suc n) parts rows

-- the value of the row at a tag, and what holds of it
row_of : (D : Declared) (P : D.D → Type 0) (n : ℕ) (parts : List (List Field)) (rows : List (Coded D.D)) → InOrder D n parts rows → AllByRecursion (λ (row : Coded D.D). P row.value) rows →
    (s : Sum (rowss parts)) → (d : D.D) × (tag_of D d ≡ n + tag (rowss parts) s) × P d
row_of D P n [] rows order all s = absurd s
row_of D P n (Fs ∷ parts) [] order all s = absurd order
row_of D P n (Fs ∷ parts) (row ∷ rows) order all (inl x) = let none : n ≡ n + 0 = omega arith in (row.value, order.0 ∙ none, all.0)
row_of D P n (Fs ∷ parts) (row ∷ rows) order all (inr s) =
    let later = row_of D P (suc n) parts rows order.1 all.1 s in
    let one : suc n + tag (rowss parts) s ≡ n + suc (tag (rowss parts) s) = omega arith in
    (later.0, later.1 ∙ one, later.2)

-- what holds of the value of each row holds of every value
each : (D : Declared) → Bare D.parts → (rows : List (Coded D.D)) → InOrder D 0 D.parts rows → (P : D.D → Type 0) → AllByRecursion (λ (row : Coded D.D). P row.value) rows → (v : D.D) → P v
each D bare rows order P all v =
    let found = row_of D P 0 D.parts rows order all (D.to v) in
    let none : 0 + tag_of D v ≡ tag_of D v = omega arith in
    subst P (tag_one D bare found.0 v (found.1 ∙ none)) found.2

-- what holds of each row holds of every class
pub each_class : (P : Class → Type 0) → AllByRecursion (λ (row : Coded Class). P row.value) class_rows → (c : Class) → P c
unfolding class_rows
each_class = each class_type.the_type (search rules) class_rows (refl, (refl, (refl, (refl, tt))))

-- the same of actions
pub each_action : (P : Action → Type 0) → AllByRecursion (λ (row : Coded Action). P row.value) action_rows → (a : Action) → P a
unfolding action_rows
each_action = each action_type.the_type (search rules) action_rows (refl, (refl, (refl, (refl, (refl, (refl, (refl, (refl, (refl, (refl, tt))))))))))

-- the same of significances
pub each_sig : (P : Sig → Type 0) → AllByRecursion (λ (row : Coded Sig). P row.value) sig_rows → (s : Sig) → P s
unfolding sig_rows
each_sig = each sig_type.the_type (search rules) sig_rows (refl, (refl, (refl, (refl, (refl, (refl, (refl, tt)))))))

-- the same of severities
pub each_severity : (P : Severity → Type 0) → AllByRecursion (λ (row : Coded Severity). P row.value) severity_rows → (s : Severity) → P s
unfolding severity_rows
each_severity = each severity_type.the_type (search rules) severity_rows (refl, (refl, (refl, (refl, (refl, (refl, tt))))))

-- the same of statuses
pub each_status : (P : Status → Type 0) → AllByRecursion (λ (row : Coded Status). P row.value) status_rows → (s : Status) → P s
unfolding status_rows
each_status = each status_type.the_type (search rules) status_rows (refl, (refl, (refl, (refl, tt))))

-- ---- letters and values

-- what stands beside letters has these letters, where each row's code is that of its value
letters_are : {T : Type 0} (code : T → List ℕ) (rows : List (Coded T)) → AllByRecursion (λ (row : Coded T). without_padding row.code ≡ code row.value) rows → (text : List ℕ) (v : T) → value_for_code rows text ≡ Some v → text ≡ code v
letters_are code [] all text v h = absurd (none-some v h)
letters_are {T} code (row ∷ rows) all text v h = elim (cases_Bool (bytes_eq (without_padding row.code) text)) [
  | inl e ↦ let same : Some row.value ≡ Some v = rw e at h in sym ((bytes_eq-Decides _ _).0 e) ∙ all.0 ∙ ap code (same_Some _ _ same)
  | inr e ↦ letters_are code rows all.1 text v (rw e at h)
]

-- what stands beside the letter of a class is that letter
pub class_letters : (text : List ℕ) (c : Class) → value_for_code class_rows text ≡ Some c → text ≡ class_code c
unfolding class_rows
class_letters = letters_are class_code class_rows (refl, (refl, (refl, (refl, tt))))

-- the same of actions
pub action_letters : (text : List ℕ) (a : Action) → value_for_code action_rows text ≡ Some a → text ≡ action_code a
unfolding action_rows
action_letters = letters_are action_code action_rows (refl, (refl, (refl, (refl, (refl, (refl, (refl, (refl, (refl, (refl, tt))))))))))

-- the same of significances
pub sig_letters : (text : List ℕ) (s : Sig) → value_for_code sig_rows text ≡ Some s → text ≡ sig_code s
unfolding sig_rows
sig_letters = letters_are sig_code sig_rows (refl, (refl, (refl, (refl, (refl, (refl, (refl, tt)))))))

-- the same of severities
pub severity_letters : (text : List ℕ) (s : Severity) → value_for_code severity_rows text ≡ Some s → text ≡ severity_code s
unfolding severity_rows
severity_letters = letters_are severity_code severity_rows (refl, (refl, (refl, (refl, (refl, (refl, tt))))))

-- the same of statuses
pub status_letters : (text : List ℕ) (s : Status) → value_for_code status_rows text ≡ Some s → text ≡ status_code s
unfolding status_rows
status_letters = letters_are status_code status_rows (refl, (refl, (refl, (refl, tt))))

-- the class of its letter is found in the table
pub class_found : (c : Class) → value_for_code class_rows (class_code c) ≡ Some c
unfolding class_rows
class_found = each_class (λ c. value_for_code class_rows (class_code c) ≡ Some c) (refl, (refl, (refl, (refl, tt))))

-- the same of actions
pub action_found : (a : Action) → value_for_code action_rows (action_code a) ≡ Some a
unfolding action_rows
action_found = each_action (λ a. value_for_code action_rows (action_code a) ≡ Some a) (refl, (refl, (refl, (refl, (refl, (refl, (refl, (refl, (refl, (refl, tt))))))))))

-- the same of significances
pub sig_found : (s : Sig) → value_for_code sig_rows (sig_code s) ≡ Some s
unfolding sig_rows
sig_found = each_sig (λ s. value_for_code sig_rows (sig_code s) ≡ Some s) (refl, (refl, (refl, (refl, (refl, (refl, (refl, tt)))))))

-- the same of severities
pub severity_found : (s : Severity) → value_for_code severity_rows (severity_code s) ≡ Some s
unfolding severity_rows
severity_found = each_severity (λ s. value_for_code severity_rows (severity_code s) ≡ Some s) (refl, (refl, (refl, (refl, (refl, (refl, tt))))))

-- the same of statuses
pub status_found : (s : Status) → value_for_code status_rows (status_code s) ≡ Some s
unfolding status_rows
status_found = each_status (λ s. value_for_code status_rows (status_code s) ≡ Some s) (refl, (refl, (refl, (refl, tt))))

-- a text of one byte is its first byte
pub only_byte : (text : List ℕ) → length text ≡ 1 → slice_index text 0 ∷ [] ≡ text
only_byte [] h = absurd (omega (arith, h))
only_byte (c ∷ []) h = refl
only_byte (c ∷ d ∷ text) h = absurd (omega (arith, h))

-- a class has one letter
pub class_one : (c : Class) → length (class_code c) ≡ 1
unfolding class_rows
class_one = each_class (λ c. length (class_code c) ≡ 1) (refl, (refl, (refl, (refl, tt))))

-- a severity has one character
pub severity_one : (s : Severity) → length (severity_code s) ≡ 1
unfolding severity_rows
severity_one = each_severity (λ s. length (severity_code s) ≡ 1) (refl, (refl, (refl, (refl, (refl, (refl, tt))))))
