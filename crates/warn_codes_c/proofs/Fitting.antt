-- Fields and the values that have them.
use Rattle.std.proofs.Common.{◌≡◌, ◌∙◌, ℕ, ◌<◌, ◌≤◌, ◌==◌, List, [], ◌∷◌, refl, sym, ap, subst, arith, Option, Some, None, IsTrue, inl, inr}
use Rattle.std.specs.Prelude.{slice_index}
use Rattle.std.proofs.lemmas.Bool.{cases_Bool, leb-true, le-leb, eqb-true, lt-ltb}
use Rattle.std.proofs.lemmas.Option.{same_Some, cond_some}
use Rattle.hazard_types.proofs.CodesBack.{class_letters, action_letters, sig_letters, severity_letters, status_letters, class_found, action_found, sig_found, severity_found, status_found, class_one, severity_one, only_byte}
use Rattle.hazard_types.proofs.Years.{days_fit}
use Rattle.hazard_types.specs.Calendar.{IsCivil, minute_of}
use Rattle.hazard_types.specs.declared.calendar.Civil.{Civil}
use Rattle.hazard_types.specs.Characters.{is_office, is_location, location_at}
use Rattle.hazard_types.specs.Codes.{value_for_code}
use Rattle.hazard_types.specs.Letters.{class_code, action_code, severity_code, status_code}
use Rattle.hazard_types.specs.Orders.{sig_letter}
use Rattle.hazard_types.specs.Tables.{class_rows, severity_rows}
use Rattle.hazard_types.specs.Times.{IsTime}
use Rattle.hazard_types.specs.declared.codes.Class.{Class}
use Rattle.hazard_types.specs.declared.codes.Severity.{Severity}
use Rattle.hazard_types.specs.declared.line.Flood.{Flood}
use Rattle.hazard_types.specs.declared.line.Vtec.{Vtec}
use Rattle.hvtec_string.specs.Columns.{IsHvtec, cause_at, values as flood_values}
use Rattle.hvtec_string.proofs.Laying.{values_back as flood_parts}
use Rattle.vtec_string.specs.Columns.{IsVtec, office_at, phenomenon_at, values as vtec_values}
use Rattle.vtec_string.proofs.Laying.{values_back as vtec_parts}
use Rattle.warn_codes_c.specs.Fields.{time_number, vtec_fields, flood_fields}
use Rattle.warn_codes_c.specs.Writing.{time_of, number_at, vtec_of, flood_of}
use Rattle.warn_codes_c.specs.declared.fields.FloodFields.{FloodFields}
use Rattle.warn_codes_c.specs.declared.fields.VtecFields.{VtecFields}

-- ---- times

minute_low : (c : Civil) → IsCivil c → minute_of c < 52596000
unfolding minute_of
minute_low c h = let days = days_fit c h in let hour = h.hour in let minute = h.minute in omega (arith, days, hour, minute)

low_time : (m : ℕ) → m < 52596000 → time_of m ≡ Some (Some m)
low_time m low = elim (cases_Bool (m == 4294967295)) [
  | inl e ↦ absurd (too_high m low (eqb-true _ _ e))
  | inr e ↦ rw (e, lt-ltb m 52596000 low) refl
]
  where
    too_high : (m : ℕ) → m < 52596000 → m ≡ 4294967295 → ⊥
    too_high m low e = omega arith

pub time_hit : (text : List ℕ) (t : Option ℕ) → IsTime text t → time_of (time_number t) ≡ Some t
time_hit text None h = refl
time_hit text (Some m) h = low_time m (subst (λ (n : ℕ). n < 52596000) (sym h.2) (minute_low h.0 h.1))

pub time_back : (n : ℕ) (t : Option ℕ) → time_of n ≡ Some t → time_number t ≡ n
time_back n t h = elim (cases_Bool (n == 4294967295)) [
  | inl e ↦ let same : None ≡ t = same_Some _ _ (rw e at h) in ap time_number (sym same) ∙ sym (eqb-true _ _ e)
  | inr e ↦ let found = cond_some _ _ _ (rw e at h) in ap time_number (sym found.1)
]

-- ---- texts

-- the text that was written is the only one of the values that were found
pub only_text : {V : Type 0} (Is : List ℕ → V → Type 0) (text bytes : List ℕ) (v w : V) → ((b : List ℕ) → Is b v → b ≡ text) → Some v ≡ Some w → Is bytes w → Some text ≡ Some bytes
only_text Is text bytes v w only same is = ap (λ b. Some b) (sym (only bytes (subst (Is bytes) (sym (same_Some _ _ same)) is)))

-- ---- P-VTEC

class_hit : (c : Class) → value_for_code class_rows (slice_index (class_code c) 0 ∷ []) ≡ Some c
class_hit c = ap (value_for_code class_rows) (only_byte (class_code c) (class_one c)) ∙ class_found c

-- the values that fields have, have these fields
pub vtec_back : (f : VtecFields) (v : Vtec) → vtec_of f ≡ Some v → vtec_fields v ≡ f
unfolding vtec_of
vtec_back f v h =
    let p = vtec_parts _ _ _ _ _ _ _ _ v h in
    let class : slice_index (class_code v.class) 0 ≡ f.class = ap (λ (t : List ℕ). slice_index t 0) (sym (class_letters (f.class ∷ []) v.class p.class)) in
    let action : action_code v.action ≡ f.action = sym (action_letters f.action v.action p.action) in
    let sig : sig_letter v.hazard.sig ≡ f.significance = ap (λ (t : List ℕ). slice_index t 0) (sym (sig_letters (f.significance ∷ []) v.hazard.sig p.sig)) in
    let office : v.office ≡ f.office = sym (cond_some _ _ _ p.office).1 in
    let phen : v.hazard.phen ≡ f.phenomenon = sym (cond_some _ _ _ p.phen).1 in
    let etn : v.etn ≡ f.number = sym (cond_some _ _ _ p.etn).1 in
    let begin = time_back f.begin v.begin p.begin in
    let end = time_back f.end v.end p.end in
    λ i. record { begin = begin i; end = end i; number = etn i; phenomenon = phen i; office = office i; action = action i; class = class i; significance = sig i }

-- the values of a text are those that its fields have
pub vtec_hit : (bytes : List ℕ) (v : Vtec) (f : VtecFields) → IsVtec bytes v → vtec_fields v ≡ f → vtec_of f ≡ Some v
unfolding vtec_of
vtec_hit bytes v f is e =
    let office : office_at v.office ≡ Some v.office = rw is.is_office refl in
    let phen : phenomenon_at v.hazard.phen ≡ Some v.hazard.phen = rw is.are_letters refl in
    let etn : number_at v.etn ≡ Some v.etn = rw (le-leb v.etn 9999 is.is_number) refl in
    ap vtec_of (sym e) ∙ (λ i. vtec_values (class_hit v.class i) (action_found v.action i) (office i) (phen i) (sig_found v.hazard.sig i) (etn i) (time_hit _ v.begin is.begin i) (time_hit _ v.end is.end i))

-- they may be written
pub vtec_may : (f : VtecFields) (v : Vtec) → vtec_of f ≡ Some v → IsTrue (is_office v.office) × (v.etn ≤ 9999)
unfolding vtec_of
vtec_may f v h =
    let p = vtec_parts _ _ _ _ _ _ _ _ v h in
    let office = cond_some _ _ _ p.office in
    let etn = cond_some _ _ _ p.etn in
    (subst (λ (t : List ℕ). IsTrue (is_office t)) office.1 office.0, subst (λ (n : ℕ). n ≤ 9999) etn.1 (leb-true _ _ etn.0))

-- ---- H-VTEC

severity_hit : (s : Severity) → value_for_code severity_rows (slice_index (severity_code s) 0 ∷ []) ≡ Some s
severity_hit s = ap (value_for_code severity_rows) (only_byte (severity_code s) (severity_one s)) ∙ severity_found s

pub flood_back : (f : FloodFields) (h : Flood) → flood_of f ≡ Some h → flood_fields h ≡ f
unfolding flood_of
flood_back f h is =
    let p = flood_parts _ _ _ _ _ _ _ h is in
    let severity : slice_index (severity_code h.severity) 0 ≡ f.severity = ap (λ (t : List ℕ). slice_index t 0) (sym (severity_letters (f.severity ∷ []) h.severity p.severity)) in
    let status : status_code h.status ≡ f.record_status = sym (status_letters f.record_status h.status p.status) in
    let site : h.site ≡ f.location = sym (cond_some _ _ _ p.location).1 in
    let cause : h.cause ≡ f.cause = sym (cond_some _ _ _ p.cause).1 in
    let begin = time_back f.begin h.begin p.begin in
    let crest = time_back f.crest h.crest p.crest in
    let end = time_back f.end h.end p.end in
    λ i. record { begin = begin i; crest = crest i; end = end i; location = site i; severity = severity i; cause = cause i; record_status = status i }

pub flood_hit : (bytes : List ℕ) (h : Flood) (f : FloodFields) → IsHvtec bytes h → flood_fields h ≡ f → flood_of f ≡ Some h
unfolding flood_of
flood_hit bytes h f is e =
    let site : location_at h.site ≡ Some h.site = rw is.is_location refl in
    let cause : cause_at h.cause ≡ Some h.cause = rw is.are_letters refl in
    ap flood_of (sym e) ∙ (λ i. flood_values (site i) (severity_hit h.severity i) (cause i) (time_hit _ h.begin is.begin i) (time_hit _ h.crest is.crest i) (time_hit _ h.end is.end i) (status_found h.status i))

pub flood_may : (f : FloodFields) (h : Flood) → flood_of f ≡ Some h → IsTrue (is_location h.site)
unfolding flood_of
flood_may f h is =
    let site = cond_some _ _ _ (flood_parts _ _ _ _ _ _ _ h is).location in
    subst (λ (t : List ℕ). IsTrue (is_location t)) site.1 site.0
