-- P-VTEC by its columns: /k.aaa.cccc.pp.s.####.yymmddThhnnZ-yymmddThhnnZ/
use Rattle.std.specs.Prelude.{◌≡◌, ℕ, ◌+◌, ◌-◌, ◌*◌, ◌≤◌, ◌&&◌, ◌==◌, Bool, IsTrue, nat_le, length, List, [], ◌∷◌, ◌++◌, Option, None, Some, slice_index, codes, bytes_eq, if◌then◌else◌}
use Rattle.std.specs.List.{slice_range}
use Rattle.hazard_types.specs.Characters.{is_office}
use Rattle.hazard_types.specs.Digits.{four_digits}
use Rattle.hazard_types.specs.Times.{IsTime, time_text, time_at}
use Rattle.hazard_types.specs.Places.{are_letters}
use Rattle.hazard_types.specs.declared.codes.Class.{Class}
use Rattle.hazard_types.specs.declared.codes.Action.{Action}
use Rattle.hazard_types.specs.declared.hazard.Sig.{Sig}
use Rattle.hazard_types.specs.declared.line.Vtec.{Vtec}
use Rattle.hazard_types.specs.Codes.{value_for_code}
use Rattle.hazard_types.specs.Tables.{class_rows, action_rows, sig_rows}
use Rattle.hazard_types.specs.Letters.{class_code, action_code, sig_code}

-- the bytes before, between and behind the columns
abbrev pub separators : List ℕ → List ℕ
separators b = slice_index b 0 ∷ slice_index b 2 ∷ slice_index b 6 ∷ slice_index b 11 ∷ slice_index b 14 ∷ slice_index b 16 ∷ slice_index b 21 ∷ slice_index b 34 ∷ slice_index b 47 ∷ []

-- each column of the 48 bytes has what the values say; class, action and significance are those that stand beside its letters in their tables
pub record IsVtec (bytes : List ℕ) (v : Vtec) : Type 0 where
  pub size : length bytes ≡ 48
  pub separated : separators bytes ≡ codes "/......-/"
  pub class : value_for_code class_rows (slice_range bytes 1 2) ≡ Some v.class
  pub action : value_for_code action_rows (slice_range bytes 3 6) ≡ Some v.action
  pub office : slice_range bytes 7 11 ≡ v.office
  pub is_office : IsTrue (is_office v.office)
  pub phenomenon : slice_range bytes 12 14 ≡ v.hazard.phen
  pub are_letters : IsTrue (are_letters v.hazard.phen)
  pub significance : value_for_code sig_rows (slice_range bytes 15 16) ≡ Some v.hazard.sig
  pub number : slice_range bytes 17 21 ≡ four_digits v.etn
  pub is_number : v.etn ≤ 9999
  pub begin : IsTime (slice_range bytes 22 34) v.begin
  pub end : IsTime (slice_range bytes 35 47) v.end

-- the one text of these values
unfoldable pub vtec_text : Vtec → List ℕ
vtec_text v = codes "/" ++ (class_code v.class ++ (codes "." ++ (action_code v.action ++ (codes "." ++ (v.office ++ (codes "." ++ (v.hazard.phen ++ (codes "."
    ++ (sig_code v.hazard.sig ++ (codes "." ++ (four_digits v.etn ++ (codes "." ++ (time_text v.begin ++ (codes "-" ++ (time_text v.end ++ codes "/")))))))))))))))

-- ---- the values of a text as a function

-- the length and the separators
unfoldable pub has_columns : List ℕ → Bool
has_columns b = (length b == 48) && bytes_eq (separators b) (codes "/......-/")

-- the text, if it is an office
abbrev pub office_at : List ℕ → Option (List ℕ)
office_at text = if is_office text then Some text else None

-- the text, if it is a phenomenon
abbrev pub phenomenon_at : List ℕ → Option (List ℕ)
phenomenon_at text = if are_letters text then Some text else None

-- the number that four digits spell
abbrev pub number_in : List ℕ → ℕ
number_in text = 1000 * (slice_index text 0 - 48) + 100 * (slice_index text 1 - 48) + 10 * (slice_index text 2 - 48) + (slice_index text 3 - 48)

-- the same, if they are digits
unfoldable pub number_at : List ℕ → Option ℕ
number_at text = if nat_le (number_in text) 9999 && bytes_eq text (four_digits (number_in text)) then Some (number_in text) else None

-- the values, where each column has one
abbrev pub values : Option Class → Option Action → Option (List ℕ) → Option (List ℕ) → Option Sig → Option ℕ → Option (Option ℕ) → Option (Option ℕ) → Option Vtec
values None a o p s n b e = None
values (Some c) None o p s n b e = None
values (Some c) (Some a) None p s n b e = None
values (Some c) (Some a) (Some o) None s n b e = None
values (Some c) (Some a) (Some o) (Some p) None n b e = None
values (Some c) (Some a) (Some o) (Some p) (Some s) None b e = None
values (Some c) (Some a) (Some o) (Some p) (Some s) (Some n) None e = None
values (Some c) (Some a) (Some o) (Some p) (Some s) (Some n) (Some b) None = None
values (Some c) (Some a) (Some o) (Some p) (Some s) (Some n) (Some b) (Some e) = Some (record { class = c; action = a; office = o; hazard = record { phen = p; sig = s }; etn = n; begin = b; end = e })

-- the values of a P-VTEC text
unfoldable pub vtec_of : List ℕ → Option Vtec
vtec_of b =
    if has_columns b
    then values (value_for_code class_rows (slice_range b 1 2)) (value_for_code action_rows (slice_range b 3 6)) (office_at (slice_range b 7 11)) (phenomenon_at (slice_range b 12 14)) (value_for_code sig_rows (slice_range b 15 16)) (number_at (slice_range b 17 21)) (time_at (slice_range b 22 34)) (time_at (slice_range b 35 47))
    else None
