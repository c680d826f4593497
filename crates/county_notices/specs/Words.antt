-- The words of a command line.
use Rattle.std.specs.Prelude.{ℕ, List, [], ◌∷◌, if◌then◌else◌, Option, Some, None}
use Rattle.hazard_types.specs.Characters.{is_office}
use Rattle.hazard_types.specs.declared.codes.LocalZone.{LocalZone}
use Rattle.desk_settings.specs.Forms.{local_zone_in}
use Rattle.county_notices.specs.declared.issuer.Issuer.{Issuer}

-- the zone, where there is one
abbrev pub issuer_by : List ℕ → Option LocalZone → Option Issuer
issuer_by office None = None
issuer_by office (Some zone) = Some (record { office = office; zone = zone })

-- the office and the zone of `OFFICE ZONE`, which are all the words
unfoldable pub parse_issuer : List (List ℕ) → Option Issuer
parse_issuer [] = None
parse_issuer (a ∷ []) = None
parse_issuer (a ∷ b ∷ []) = if is_office a then issuer_by a (local_zone_in b) else None
parse_issuer (a ∷ b ∷ c ∷ more) = None
