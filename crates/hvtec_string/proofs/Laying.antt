-- The columns of a text, laid one behind another.
use Rattle.std.proofs.Common.{◌≡◌, ℕ, List, [], ◌∷◌, length, drop, get_or, refl, ap, subst, sym, ◌∙◌, IsTrue}
use Rattle.std.specs.Prelude.{Option, None, Some, true, IfSome}
use Rattle.std.specs.List.{slice_range}
use Rattle.std.proofs.lemmas.Bool.{and_parts, eqb-true}
use Rattle.std.proofs.lemmas.Option.{same_Some, none-some}
use Rattle.hazard_types.specs.Places.{are_letters}
use Rattle.hazard_types.specs.declared.codes.Severity.{Severity}
use Rattle.hazard_types.specs.declared.codes.Status.{Status}
use Rattle.hazard_types.specs.declared.line.Flood.{Flood}
use Rattle.hazard_types.specs.Codes.{value_for_code}
use Rattle.hazard_types.specs.Tables.{severity_rows, status_rows}
use Rattle.hazard_types.specs.Letters.{severity_code, status_code}
use Rattle.hazard_types.specs.Characters.{location_at, is_location}
use Rattle.hazard_types.specs.Times.{time_at, IsTime, time_text}
use Rattle.hazard_types.proofs.TimesRead.{time_is}
use Rattle.hazard_types.proofs.TimeLemmas.{time_back, time_hit, time_twelve}
use Rattle.hazard_types.proofs.CodesBack.{each_status, severity_letters, status_letters, severity_found, status_found, severity_one}
use Rattle.hazard_types.proofs.ColumnLemmas.{Column, AreWide, Stand, laid, stand, size_of, tested, checked, passes}
use Rattle.hvtec_string.specs.Columns.{IsHvtec, hvtec_text, has_columns, cause_at, values, hvtec_of}

-- ---- what is written

-- the columns of values, of which the first is empty
abbrev pub columns : Flood → List Column
columns h = (0, [], 47) ∷ (5, h.site, 46) ∷ (1, severity_code h.severity, 46) ∷ (2, h.cause, 46) ∷ (12, time_text h.begin, 46) ∷ (12, time_text h.crest, 46) ∷ (12, time_text h.end, 46) ∷ (2, status_code h.status, 47) ∷ []

-- a text is its columns
pub columns_are : (bytes : List ℕ) (h : Flood) → IsHvtec bytes h → bytes ≡ hvtec_text h
unfolding hvtec_text
columns_are bytes h is =
    let byte = λ (k : ℕ). ap (λ (t : List ℕ). get_or t k 0) is.separated in
    let times : Stand bytes 12 (drop 4 (columns h)) = (time_is _ h.begin is.begin, byte 4, (time_is _ h.crest is.crest, byte 5, (time_is _ h.end is.end, byte 6, (status_letters _ h.status is.status, byte 7, tt)))) in
    laid bytes 0 (columns h) is.size (refl, byte 0, (is.location, byte 1, (severity_letters _ h.severity is.severity, byte 2, (is.cause, byte 3, times))))

location_five : (site : List ℕ) → is_location site ≡ true → length site ≡ 5
location_five site h = eqb-true _ _ (and_parts _ _ h).0

status_two : (s : Status) → length (status_code s) ≡ 2
unfolding status_rows
status_two = each_status (λ s. length (status_code s) ≡ 2) (refl, (refl, (refl, (refl, tt))))

-- the text has the columns
pub columns_of : (h : Flood) → length h.cause ≡ 2 → IsTrue (is_location h.site) → IsTrue (are_letters h.cause) → IsTime (time_text h.begin) h.begin → IsTime (time_text h.crest) h.crest → IsTime (time_text h.end) h.end → IsHvtec (hvtec_text h) h
unfolding hvtec_text
columns_of h two location letters begin crest end =
    let t = hvtec_text h in
    let a = location_five h.site location in let b = severity_one h.severity in
    let wide : AreWide (columns h) = (refl, (a, (b, (two, (time_twelve h.begin, (time_twelve h.crest, (time_twelve h.end, (status_two h.status, tt)))))))) in
    let s = stand t 0 (columns h) wide refl in
    let times = s.2.2.2.2 in
    record {
      size = size_of (columns h) wide;
      separated = λ i. s.1 i ∷ s.2.1 i ∷ s.2.2.1 i ∷ s.2.2.2.1 i ∷ times.1 i ∷ times.2.1 i ∷ times.2.2.1 i ∷ times.2.2.2.1 i ∷ [];
      location = s.2.0;
      is_location = location;
      severity = ap (value_for_code severity_rows) s.2.2.0 ∙ severity_found h.severity;
      cause = s.2.2.2.0;
      are_letters = letters;
      begin = subst (λ (text : List ℕ). IsTime text h.begin) (sym times.0) begin;
      crest = subst (λ (text : List ℕ). IsTime text h.crest) (sym times.2.0) crest;
      end = subst (λ (text : List ℕ). IsTime text h.end) (sym times.2.2.0) end;
      status = ap (value_for_code status_rows) times.2.2.2.0 ∙ status_found h.status;
    }

-- ---- what is read

-- each value is the one of its column
pub record Columns (l : Option (List ℕ)) (s : Option Severity) (c : Option (List ℕ)) (b t e : Option (Option ℕ)) (f : Option Status) (h : Flood) : Type 0 where
  pub location : l ≡ Some h.site
  pub severity : s ≡ Some h.severity
  pub cause : c ≡ Some h.cause
  pub begin : b ≡ Some h.begin
  pub crest : t ≡ Some h.crest
  pub end : e ≡ Some h.end
  pub status : f ≡ Some h.status

-- the values that columns have are in their columns
pub values_back : (l : Option (List ℕ)) (s : Option Severity) (c : Option (List ℕ)) (b t e : Option (Option ℕ)) (f : Option Status) (h : Flood) → values l s c b t e f ≡ Some h → Columns l s c b t e f h
values_back None s c b t e f h is = absurd (none-some h is)
values_back (Some l) None c b t e f h is = absurd (none-some h is)
values_back (Some l) (Some s) None b t e f h is = absurd (none-some h is)
values_back (Some l) (Some s) (Some c) None t e f h is = absurd (none-some h is)
values_back (Some l) (Some s) (Some c) (Some b) None e f h is = absurd (none-some h is)
values_back (Some l) (Some s) (Some c) (Some b) (Some t) None f h is = absurd (none-some h is)
values_back (Some l) (Some s) (Some c) (Some b) (Some t) (Some e) None h is = absurd (none-some h is)
values_back (Some l) (Some s) (Some c) (Some b) (Some t) (Some e) (Some f) h is = subst (Columns (Some l) (Some s) (Some c) (Some b) (Some t) (Some e) (Some f)) (same_Some _ h is) (record { location = refl; severity = refl; cause = refl; begin = refl; crest = refl; end = refl; status = refl })

-- the function gives the values of the columns
pub hvtec_back : (b : List ℕ) (h : Flood) → hvtec_of b ≡ Some h → IsHvtec b h
unfolding hvtec_of has_columns
hvtec_back b h is =
    let found = checked 54 b _ _ _ h is in
    let k = values_back _ _ _ _ _ _ _ h found.2 in
    let site = tested is_location (slice_range b 1 6) h.site k.location in
    let cause = tested are_letters (slice_range b 9 11) h.cause k.cause in
    record { size = found.0; separated = found.1; location = site.0; is_location = site.1; severity = k.severity; cause = cause.0; are_letters = cause.1; begin = time_back _ h.begin k.begin; crest = time_back _ h.crest k.crest; end = time_back _ h.end k.end; status = k.status }

pub hvtec_hit : (b : List ℕ) (h : Flood) → IsHvtec b h → hvtec_of b ≡ Some h
unfolding hvtec_of has_columns
hvtec_hit b h is =
    let location : location_at (slice_range b 1 6) ≡ Some h.site = ap location_at is.location ∙ rw is.is_location refl in
    let cause : cause_at (slice_range b 9 11) ≡ Some h.cause = ap cause_at is.cause ∙ rw is.are_letters refl in
    let begin : time_at (slice_range b 12 24) ≡ Some h.begin = time_hit _ h.begin is.begin in
    let crest : time_at (slice_range b 25 37) ≡ Some h.crest = time_hit _ h.crest is.crest in
    let end : time_at (slice_range b 38 50) ≡ Some h.end = time_hit _ h.end is.end in
    passes 54 b _ _ _ is.size is.separated ∙ (λ i. values (location i) (is.severity i) (cause i) (begin i) (crest i) (end i) (is.status i))

pub values_found : (b : List ℕ) (r : Option Flood) → r ≡ hvtec_of b → IfSome r (IsHvtec b)
values_found b None is = tt
values_found b (Some h) is = hvtec_back b h (sym is)
