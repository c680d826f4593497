-- The columns of a text, laid one behind another.
use Rattle.std.proofs.Common.{◌≡◌, ℕ, ◌≤◌, List, [], ◌∷◌, length, drop, get_or, refl, ap, subst, sym, ◌∙◌, IsTrue}
use Rattle.std.specs.Prelude.{Option, true, None, Some, IfSome}
use Rattle.std.specs.List.{slice_range}
use Rattle.std.proofs.lemmas.Bool.{and_parts, eqb-true}
use Rattle.std.proofs.lemmas.Option.{same_Some, none-some}
use Rattle.hazard_types.specs.Places.{are_letters}
use Rattle.hazard_types.specs.declared.codes.Class.{Class}
use Rattle.hazard_types.specs.declared.codes.Action.{Action}
use Rattle.hazard_types.specs.declared.hazard.Sig.{Sig}
use Rattle.hazard_types.specs.declared.line.Vtec.{Vtec}
use Rattle.hazard_types.specs.Codes.{value_for_code}
use Rattle.hazard_types.specs.Tables.{class_rows, action_rows, sig_rows}
use Rattle.hazard_types.specs.Letters.{class_code, action_code, sig_code}
use Rattle.hazard_types.specs.Characters.{is_office}
use Rattle.hazard_types.specs.Digits.{four_digits}
use Rattle.hazard_types.specs.Times.{time_at, IsTime, time_text}
use Rattle.hazard_types.proofs.TimesRead.{time_is}
use Rattle.hazard_types.proofs.TimeLemmas.{time_back, time_hit, time_twelve}
use Rattle.hazard_types.proofs.CodesBack.{each_action, class_letters, action_letters, sig_letters, class_found, action_found, sig_found, class_one}
use Rattle.hazard_types.proofs.ColumnLemmas.{Column, AreWide, Stand, laid, stand, size_of, tested, checked, passes}
use Rattle.vtec_string.specs.Columns.{IsVtec, vtec_text, has_columns, office_at, phenomenon_at, number_at, values, vtec_of}
use Rattle.vtec_string.proofs.Numbers.{number_back, number_hit}

-- ---- what is written

-- the columns of values, of which the first is empty
abbrev pub columns : Vtec → List Column
columns v = (0, [], 47) ∷ (1, class_code v.class, 46) ∷ (3, action_code v.action, 46) ∷ (4, v.office, 46) ∷ (2, v.hazard.phen, 46) ∷ (1, sig_code v.hazard.sig, 46) ∷ (4, four_digits v.etn, 46) ∷ (12, time_text v.begin, 45) ∷ (12, time_text v.end, 47) ∷ []

-- a text is its columns
pub columns_are : (bytes : List ℕ) (v : Vtec) → IsVtec bytes v → bytes ≡ vtec_text v
unfolding vtec_text
columns_are bytes v h =
    let byte = λ (k : ℕ). ap (λ (t : List ℕ). get_or t k 0) h.separated in
    let times : Stand bytes 22 ((12, time_text v.begin, 45) ∷ (12, time_text v.end, 47) ∷ []) = (time_is _ v.begin h.begin, byte 7, (time_is _ v.end h.end, byte 8, tt)) in
    let event : Stand bytes 12 (drop 4 (columns v)) = (h.phenomenon, byte 4, (sig_letters _ v.hazard.sig h.significance, byte 5, (h.number, byte 6, times))) in
    laid bytes 0 (columns v) h.size (refl, byte 0, (class_letters _ v.class h.class, byte 1, (action_letters _ v.action h.action, byte 2, (h.office, byte 3, event))))

action_three : (a : Action) → length (action_code a) ≡ 3
unfolding action_rows
action_three = each_action (λ a. length (action_code a) ≡ 3) (refl, (refl, (refl, (refl, (refl, (refl, (refl, (refl, (refl, (refl, tt))))))))))

office_four : (office : List ℕ) → is_office office ≡ true → length office ≡ 4
office_four office h = eqb-true _ _ (and_parts _ _ h).0

-- the text has the columns
pub columns_of : (v : Vtec) → length v.hazard.phen ≡ 2 → IsTrue (is_office v.office) → IsTrue (are_letters v.hazard.phen) → v.etn ≤ 9999 → IsTime (time_text v.begin) v.begin → IsTime (time_text v.end) v.end → IsVtec (vtec_text v) v
unfolding vtec_text
columns_of v two office letters number begin end =
    let t = vtec_text v in
    let a = class_one v.class in let b = action_three v.action in let c = office_four v.office office in
    let wide : AreWide (columns v) = (refl, (a, (b, (c, (two, (refl, (refl, (time_twelve v.begin, (time_twelve v.end, tt))))))))) in
    let s = stand t 0 (columns v) wide refl in
    let event = s.2.2.2.2 in
    let times = event.2.2.2 in
    record {
      size = size_of (columns v) wide;
      separated = λ i. s.1 i ∷ s.2.1 i ∷ s.2.2.1 i ∷ s.2.2.2.1 i ∷ event.1 i ∷ event.2.1 i ∷ event.2.2.1 i ∷ times.1 i ∷ times.2.1 i ∷ [];
      class = ap (value_for_code class_rows) s.2.0 ∙ class_found v.class;
      action = ap (value_for_code action_rows) s.2.2.0 ∙ action_found v.action;
      office = s.2.2.2.0;
      is_office = office;
      phenomenon = event.0;
      are_letters = letters;
      significance = ap (value_for_code sig_rows) event.2.0 ∙ sig_found v.hazard.sig;
      number = event.2.2.0;
      is_number = number;
      begin = subst (λ (text : List ℕ). IsTime text v.begin) (sym times.0) begin;
      end = subst (λ (text : List ℕ). IsTime text v.end) (sym times.2.0) end;
    }

-- ---- what is read

-- each value is the one of its column
pub record Columns (c : Option Class) (a : Option Action) (o p : Option (List ℕ)) (s : Option Sig) (n : Option ℕ) (b e : Option (Option ℕ)) (v : Vtec) : Type 0 where
  pub class : c ≡ Some v.class
  pub action : a ≡ Some v.action
  pub office : o ≡ Some v.office
  pub phen : p ≡ Some v.hazard.phen
  pub sig : s ≡ Some v.hazard.sig
  pub etn : n ≡ Some v.etn
  pub begin : b ≡ Some v.begin
  pub end : e ≡ Some v.end

-- the values that columns have are in their columns
pub values_back : (c : Option Class) (a : Option Action) (o p : Option (List ℕ)) (s : Option Sig) (n : Option ℕ) (b e : Option (Option ℕ)) (v : Vtec) → values c a o p s n b e ≡ Some v → Columns c a o p s n b e v
values_back None a o p s n b e v h = absurd (none-some v h)
values_back (Some c) None o p s n b e v h = absurd (none-some v h)
values_back (Some c) (Some a) None p s n b e v h = absurd (none-some v h)
values_back (Some c) (Some a) (Some o) None s n b e v h = absurd (none-some v h)
values_back (Some c) (Some a) (Some o) (Some p) None n b e v h = absurd (none-some v h)
values_back (Some c) (Some a) (Some o) (Some p) (Some s) None b e v h = absurd (none-some v h)
values_back (Some c) (Some a) (Some o) (Some p) (Some s) (Some n) None e v h = absurd (none-some v h)
values_back (Some c) (Some a) (Some o) (Some p) (Some s) (Some n) (Some b) None v h = absurd (none-some v h)
values_back (Some c) (Some a) (Some o) (Some p) (Some s) (Some n) (Some b) (Some e) v h = subst (Columns (Some c) (Some a) (Some o) (Some p) (Some s) (Some n) (Some b) (Some e)) (same_Some _ v h) (record { class = refl; action = refl; office = refl; phen = refl; sig = refl; etn = refl; begin = refl; end = refl })

-- the function gives the values of the columns
pub vtec_back : (b : List ℕ) (v : Vtec) → vtec_of b ≡ Some v → IsVtec b v
unfolding vtec_of has_columns
vtec_back b v h =
    let found = checked 48 b _ _ _ v h in
    let k = values_back _ _ _ _ _ _ _ _ v found.2 in
    let office = tested is_office (slice_range b 7 11) v.office k.office in
    let phen = tested are_letters (slice_range b 12 14) v.hazard.phen k.phen in
    let number = number_back (slice_range b 17 21) v.etn k.etn in
    record { size = found.0; separated = found.1; class = k.class; action = k.action; office = office.0; is_office = office.1; phenomenon = phen.0; are_letters = phen.1; significance = k.sig; number = number.1; is_number = number.0; begin = time_back _ v.begin k.begin; end = time_back _ v.end k.end }

pub vtec_hit : (b : List ℕ) (v : Vtec) → IsVtec b v → vtec_of b ≡ Some v
unfolding vtec_of has_columns
vtec_hit b v h =
    let office : office_at (slice_range b 7 11) ≡ Some v.office = ap office_at h.office ∙ rw h.is_office refl in
    let phen : phenomenon_at (slice_range b 12 14) ≡ Some v.hazard.phen = ap phenomenon_at h.phenomenon ∙ rw h.are_letters refl in
    let etn : number_at (slice_range b 17 21) ≡ Some v.etn = ap number_at h.number ∙ number_hit v.etn h.is_number in
    let begin : time_at (slice_range b 22 34) ≡ Some v.begin = time_hit _ v.begin h.begin in
    let end : time_at (slice_range b 35 47) ≡ Some v.end = time_hit _ v.end h.end in
    passes 48 b _ _ _ h.size h.separated ∙ (λ i. values (h.class i) (h.action i) (office i) (phen i) (h.significance i) (etn i) (begin i) (end i))

pub values_found : (b : List ℕ) (r : Option Vtec) → r ≡ vtec_of b → IfSome r (IsVtec b)
values_found b None is = tt
values_found b (Some v) is = vtec_back b v (sym is)
