-- The words of a command line.
use Rattle.std.specs.Prelude.{ℕ, List, [], ◌∷◌, if◌then◌else◌, Option, Some, None}
use Rattle.hazard_types.specs.Calendar.{stamp_at}
use Rattle.hazard_types.specs.Codes.{value_for_code}
use Rattle.hazard_types.specs.Tables.{class_rows}
use Rattle.hazard_types.specs.declared.codes.Class.{Class}
use Rattle.hazard_types.specs.Characters.{is_office}
use Rattle.program_ends.specs.Numbers.{count_in}
use Rattle.follow_links.specs.declared.words.Asked.{Asked}

-- all values, where there are all
abbrev pub asked_by : List ℕ → Option Class → Option ℕ → Option ℕ → Option ℕ → Option Asked
asked_by office None minute port rounds = None
asked_by office (Some c) None port rounds = None
asked_by office (Some c) (Some m) None rounds = None
asked_by office (Some c) (Some m) (Some p) None = None
asked_by office (Some c) (Some m) (Some p) (Some r) = Some (record { office = office; class = c; minute = m; port = p; rounds = r })

-- `OFFICE CLASS STAMP PORT ROUNDS`, which are all the words: a port from 1 to 65,535, and 1 to 100,000 rounds
unfoldable pub asked_of : List (List ℕ) → Option Asked
asked_of (a ∷ b ∷ c ∷ d ∷ e ∷ []) = if is_office a then asked_by a (value_for_code class_rows b) (stamp_at c) (count_in 65535 d) (count_in 100000 e) else None
asked_of _ = None
