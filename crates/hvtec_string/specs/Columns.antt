-- H-VTEC by its columns: /nwsli.s.ic.yymmddThhnnZ.yymmddThhnnZ.yymmddThhnnZ.fr/
use Rattle.std.specs.Prelude.{◌≡◌, ℕ, ◌&&◌, ◌==◌, Bool, IsTrue, length, List, [], ◌∷◌, ◌++◌, Option, None, Some, slice_index, codes, bytes_eq, if◌then◌else◌}
use Rattle.std.specs.List.{slice_range}
use Rattle.hazard_types.specs.Characters.{is_location, location_at}
use Rattle.hazard_types.specs.Times.{IsTime, time_text, time_at}
use Rattle.hazard_types.specs.Places.{are_letters}
use Rattle.hazard_types.specs.declared.codes.Severity.{Severity}
use Rattle.hazard_types.specs.declared.codes.Status.{Status}
use Rattle.hazard_types.specs.declared.line.Flood.{Flood}
use Rattle.hazard_types.specs.Codes.{value_for_code}
use Rattle.hazard_types.specs.Tables.{severity_rows, status_rows}
use Rattle.hazard_types.specs.Letters.{severity_code, status_code}

-- the bytes before, between and behind the columns
abbrev pub separators : List ℕ → List ℕ
separators b = slice_index b 0 ∷ slice_index b 6 ∷ slice_index b 8 ∷ slice_index b 11 ∷ slice_index b 24 ∷ slice_index b 37 ∷ slice_index b 50 ∷ slice_index b 53 ∷ []

-- each column of the 54 bytes has what the values say; severity and status are those that stand beside its letters in their tables, and a cause is any two capital letters
pub record IsHvtec (bytes : List ℕ) (h : Flood) : Type 0 where
  pub size : length bytes ≡ 54
  pub separated : separators bytes ≡ codes "/....../"
  pub location : slice_range bytes 1 6 ≡ h.site
  pub is_location : IsTrue (is_location h.site)
  pub severity : value_for_code severity_rows (slice_range bytes 7 8) ≡ Some h.severity
  pub cause : slice_range bytes 9 11 ≡ h.cause
  pub are_letters : IsTrue (are_letters h.cause)
  pub begin : IsTime (slice_range bytes 12 24) h.begin
  pub crest : IsTime (slice_range bytes 25 37) h.crest
  pub end : IsTime (slice_range bytes 38 50) h.end
  pub status : value_for_code status_rows (slice_range bytes 51 53) ≡ Some h.status

-- the one text of these values
unfoldable pub hvtec_text : Flood → List ℕ
hvtec_text h = codes "/" ++ (h.site ++ (codes "." ++ (severity_code h.severity ++ (codes "." ++ (h.cause ++ (codes "." ++ (time_text h.begin ++ (codes "."
    ++ (time_text h.crest ++ (codes "." ++ (time_text h.end ++ (codes "." ++ (status_code h.status ++ codes "/")))))))))))))

-- ---- the values of a text as a function

-- the length and the separators
unfoldable pub has_columns : List ℕ → Bool
has_columns b = (length b == 54) && bytes_eq (separators b) (codes "/....../")

-- the text, if it is a cause
abbrev pub cause_at : List ℕ → Option (List ℕ)
cause_at text = if are_letters text then Some text else None

-- the values, where each column has one
abbrev pub values : Option (List ℕ) → Option Severity → Option (List ℕ) → Option (Option ℕ) → Option (Option ℕ) → Option (Option ℕ) → Option Status → Option Flood
values None s c b t e f = None
values (Some l) None c b t e f = None
values (Some l) (Some s) None b t e f = None
values (Some l) (Some s) (Some c) None t e f = None
values (Some l) (Some s) (Some c) (Some b) None e f = None
values (Some l) (Some s) (Some c) (Some b) (Some t) None f = None
values (Some l) (Some s) (Some c) (Some b) (Some t) (Some e) None = None
values (Some l) (Some s) (Some c) (Some b) (Some t) (Some e) (Some f) = Some (record { site = l; severity = s; cause = c; begin = b; crest = t; end = e; status = f })

-- the values of an H-VTEC text
unfoldable pub hvtec_of : List ℕ → Option Flood
hvtec_of b =
    if has_columns b
    then values (location_at (slice_range b 1 6)) (value_for_code severity_rows (slice_range b 7 8)) (cause_at (slice_range b 9 11)) (time_at (slice_range b 12 24)) (time_at (slice_range b 25 37)) (time_at (slice_range b 38 50)) (value_for_code status_rows (slice_range b 51 53))
    else None
