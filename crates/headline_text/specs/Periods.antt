-- When an event is in effect, in words.
use Rattle.std.specs.Prelude.{ℕ, nat_le, List, ◌++◌, if◌then◌else◌, Option, Some, None, codes}
use Rattle.desk_clock.specs.LocalText.{local_short_of}
use Rattle.hazard_types.specs.declared.codes.LocalZone.{LocalZone}
use Rattle.hazard_types.specs.declared.period.End.{End}
use Rattle.hazard_types.specs.declared.period.End.TheVariants.{At, Ufn}

abbrev pub until_of : LocalZone → End → List ℕ
until_of z (At end) = codes "until " ++ local_short_of z end
until_of z Ufn = codes "until further notice"

abbrev pub from_of : LocalZone → ℕ → End → List ℕ
from_of z begin (At end) = codes "from " ++ local_short_of z begin ++ codes " to " ++ local_short_of z end
from_of z begin Ufn = codes "from " ++ local_short_of z begin ++ codes " until further notice"

-- from a begin that is still to come at minute t, or until an end alone
unfoldable pub period_of : LocalZone → ℕ → Option ℕ → End → List ℕ
period_of z t None end = until_of z end
period_of z t (Some begin) end = if nat_le begin t then until_of z end else from_of z begin end
