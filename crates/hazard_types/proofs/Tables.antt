-- That the tables have no repeats: a test that computes.
use Rattle.std.proofs.Common.{◌≡◌, ◌==◌, ◌&&◌, ℕ, Bool, true, false, not, List, [], ◌∷◌, length, nat_le, refl, ap, ◌∙◌, leb-true, arith, ◌≤◌}
use Rattle.std.specs.List.{list_all}
use Rattle.std.specs.Str.{bytes_eq}
use Rattle.std.proofs.lemmas.Bool.{and_parts, eqb-true}
use Rattle.std.proofs.lemmas.Slice.Eq.{bytes_eq-Decides}
use Rattle.hazard_types.specs.declared.codes.Coded.{Coded}
use Rattle.hazard_types.specs.Codes.{without_padding, filled, IsCode, StandsAlone, IsTable}
use Rattle.hazard_types.specs.Tables.{class_rows, action_rows, sig_rows, severity_rows, cause_rows, status_rows, category_rows}
use Rattle.hazard_types.proofs.Equality.{class_itself, action_itself, sig_itself, severity_itself, cause_itself, status_itself, category_itself, hazard_itself}
use Rattle.hazard_types.specs.Hazards.{hazard_rows, desk_hazards}
use Rattle.hazard_types.specs.contracts.hazard.HazardPartialEq.TheImpl as hazard
use Rattle.hazard_types.specs.contracts.codes.ClassPartialEq.TheImpl as class
use Rattle.hazard_types.specs.contracts.codes.ActionPartialEq.TheImpl as action
use Rattle.hazard_types.specs.contracts.hazard.SigPartialEq.TheImpl as sig
use Rattle.hazard_types.specs.contracts.codes.SeverityPartialEq.TheImpl as severity
use Rattle.hazard_types.specs.contracts.codes.CausePartialEq.TheImpl as cause
use Rattle.hazard_types.specs.contracts.codes.StatusPartialEq.TheImpl as status
use Rattle.hazard_types.specs.contracts.codes.CategoryPartialEq.TheImpl as category

abbrev is_code : List ℕ → Bool
is_code code = nat_le 1 (length (without_padding code)) && (bytes_eq (filled (without_padding code)) code && length code == 4)

not_empty : (xs : List ℕ) → 1 ≤ length xs → xs ≡ [] → ⊥
not_empty xs h e = let size : length xs ≡ 0 = ap length e in absurd (omega arith)

code_by_test : (code : List ℕ) → is_code code ≡ true → IsCode code
code_by_test code h =
    let p = and_parts (nat_le 1 (length (without_padding code))) _ h in
    let q = and_parts (bytes_eq (filled (without_padding code)) code) _ p.1 in
    record { some = not_empty (without_padding code) (leb-true _ _ p.0); whole = (bytes_eq-Decides _ _).0 q.0; four = eqb-true _ _ q.1 }

negated : (b : Bool) → not b ≡ true → b ≡ true → ⊥
negated true h e = cc
negated false h e = cc

module _ {T : Type 0} where
  abbrev differs : (T → T → Bool) → Coded T → Coded T → Bool
  differs same row other = not (bytes_eq row.code other.code) && not (same row.value other.value)

  abbrev is_table : (T → T → Bool) → List (Coded T) → Bool
  is_table same [] = true
  is_table same (row ∷ rows) = is_code row.code && (list_all (differs same row) rows && is_table same rows)

  alone_by_test : (same : T → T → Bool) → ((x : T) → same x x ≡ true) → (row : Coded T) (rows : List (Coded T)) → list_all (differs same row) rows ≡ true → StandsAlone row rows
  alone_by_test same itself row [] h = tt
  alone_by_test same itself row (r ∷ rows) h =
      let p = and_parts (differs same row r) _ h in
      let q = and_parts (not (bytes_eq row.code r.code)) _ p.0 in
      ((λ e. negated _ q.0 ((bytes_eq-Decides row.code r.code).1 e), λ e. negated _ q.1 (ap (λ x. same x r.value) e ∙ itself r.value)), alone_by_test same itself row rows p.1)

  table_by_test : (same : T → T → Bool) → ((x : T) → same x x ≡ true) → (rows : List (Coded T)) → is_table same rows ≡ true → IsTable rows
  table_by_test same itself [] h = tt
  table_by_test same itself (row ∷ rows) h =
      let p = and_parts (is_code row.code) _ h in
      let q = and_parts (list_all (differs same row) rows) _ p.1 in
      (code_by_test row.code p.0, alone_by_test same itself row rows q.0, table_by_test same itself rows q.1)

pub class_table : IsTable class_rows
unfolding class_rows
class_table = table_by_test class.eq-value.it class_itself class_rows refl

pub action_table : IsTable action_rows
unfolding action_rows
action_table = table_by_test action.eq-value.it action_itself action_rows refl

pub sig_table : IsTable sig_rows
unfolding sig_rows
sig_table = table_by_test sig.eq-value.it sig_itself sig_rows refl

pub severity_table : IsTable severity_rows
unfolding severity_rows
severity_table = table_by_test severity.eq-value.it severity_itself severity_rows refl

pub cause_table : IsTable cause_rows
unfolding cause_rows
cause_table = table_by_test cause.eq-value.it cause_itself cause_rows refl

pub status_table : IsTable status_rows
unfolding status_rows
status_table = table_by_test status.eq-value.it status_itself status_rows refl

pub category_table : IsTable category_rows
unfolding category_rows
category_table = table_by_test category.eq-value.it category_itself category_rows refl

pub hazard_table : IsTable hazard_rows
unfolding hazard_rows desk_hazards
hazard_table = table_by_test hazard.eq-value.it hazard_itself hazard_rows refl
