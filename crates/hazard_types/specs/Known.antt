-- Rows with a value for each hazard, which is given by its phenomenon and its significance.
use Rattle.std.specs.Prelude.{List, [], ◌∷◌, Option, Some, None, if◌then◌else◌}
use Rattle.hazard_types.specs.Same.{same_hazard}
use Rattle.hazard_types.specs.declared.hazard.Hazard.{Hazard}
use Rattle.hazard_types.specs.declared.desk_hazards.Known.{Known}

-- the hazard of a row
abbrev pub parse_hazard : {X : Type 0} → Known X → Hazard
parse_hazard row = record { phen = row.letters; sig = row.sig }

-- the value of the first row with a hazard
abbrev pub known_for : {X : Type 0} → List (Known X) → Hazard → Option X
known_for [] h = None
known_for (row ∷ rows) h =
    if same_hazard (parse_hazard row) h then Some row.value else known_for rows h
