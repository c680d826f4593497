-- The words of a command line.
use Rattle.std.specs.Prelude.{ℕ, List, [], ◌∷◌, if◌then◌else◌, Option, Some, None}
use Rattle.hazard_types.specs.Calendar.{stamp_at}
use Rattle.hazard_types.specs.Codes.{value_for_code}
use Rattle.hazard_types.specs.Tables.{class_rows}
use Rattle.hazard_types.specs.declared.codes.Class.{Class}
use Rattle.hazard_types.specs.Characters.{is_office}
use Rattle.archive_report.specs.declared.words.Asked.{Asked}

-- class and minute, where there are both
abbrev pub asked_by : List ℕ → Option Class → Option ℕ → Option Asked
asked_by office None minute = None
asked_by office (Some c) None = None
asked_by office (Some c) (Some m) = Some (record { office = office; class = c; minute = m })

-- the office, the class and the minute of `OFFICE CLASS STAMP`, which are all the words
unfoldable pub asked_of : List (List ℕ) → Option Asked
asked_of [] = None
asked_of (a ∷ []) = None
asked_of (a ∷ b ∷ []) = None
asked_of (a ∷ b ∷ c ∷ []) = if is_office a then asked_by a (value_for_code class_rows b) (stamp_at c) else None
asked_of (a ∷ b ∷ c ∷ d ∷ more) = None
