-- The headline of a line, and its WHEN bullet, before they are wrapped.
use Rattle.std.specs.Prelude.{ℕ, nat_lt, Bool, true, false, List, [], ◌∷◌, ◌++◌, if◌then◌else◌, Option, unwrap_or, codes}
use Rattle.std.specs.Char.{to_ascii_uppercase}
use Rattle.desk_clock.specs.LocalText.{local_short_of}
use Rattle.hazard_types.specs.Actions.{leaves_live}
use Rattle.hazard_types.specs.Hazards.{name_of}
use Rattle.hazard_types.specs.declared.codes.Action.{Action}
use Rattle.hazard_types.specs.declared.codes.Action.TheVariants.{New, Con, Exa, Ext, Exb, Upg, Can, Exp, Cor, Rou}
use Rattle.hazard_types.specs.declared.codes.LocalZone.{LocalZone}
use Rattle.hazard_types.specs.declared.hazard.Hazard.{Hazard}
use Rattle.hazard_types.specs.declared.line.SegLine.{SegLine}
use Rattle.hazard_types.specs.declared.period.End.{End}
use Rattle.hazard_types.specs.declared.period.End.TheVariants.{At, Ufn}
use Rattle.headline_text.specs.Periods.{period_of}

-- the name of a hazard; nothing, where the desk does not issue it
abbrev pub name_text : Hazard → List ℕ
name_text h = unwrap_or (name_of h) []

-- ...N in effect until E...
abbrev pub standing_headline : List ℕ → List ℕ → List ℕ → List ℕ
standing_headline name effect period = codes "..." ++ name ++ effect ++ period ++ codes "..."

-- ...The N is cancelled...
abbrev pub told : List ℕ → List ℕ → List ℕ
told name what = codes "...The " ++ name ++ what ++ codes "..."

-- at minute t an event will expire before its end, and has expired from then on; an event that expires has an end
abbrev pub expiry_of : End → LocalZone → ℕ → List ℕ
expiry_of (At end) z t = if nat_lt t end then codes " will expire at " ++ local_short_of z end else codes " has expired"
expiry_of Ufn z t = codes " has expired"

abbrev pub headline_by : Action → List ℕ → Option ℕ → End → LocalZone → ℕ → List ℕ
headline_by New name begin end z t = standing_headline name (codes " in effect ") (period_of z t begin end)
headline_by Exa name begin end z t = standing_headline name (codes " in effect ") (period_of z t begin end)
headline_by Exb name begin end z t = standing_headline name (codes " in effect ") (period_of z t begin end)
headline_by Ext name begin end z t = standing_headline name (codes " now in effect ") (period_of z t begin end)
headline_by Con name begin end z t = standing_headline name (codes " remains in effect ") (period_of z t begin end)
headline_by Cor name begin end z t = standing_headline name (codes " remains in effect ") (period_of z t begin end)
headline_by Can name begin end z t = told name (codes " is cancelled")
headline_by Upg name begin end z t = told name (codes " is upgraded")
headline_by Exp name begin end z t = told name (expiry_of end z t)
headline_by Rou name begin end z t = []

-- the headline of a line in a product of minute t
unfoldable pub headline_of : SegLine → LocalZone → ℕ → List ℕ
headline_of l z t = headline_by l.action (name_text l.event.hazard) l.begin l.end z t

abbrev pub is_minute : End → Bool
is_minute (At end) = true
is_minute Ufn = false

-- the first letter in upper case
abbrev pub capital : List ℕ → List ℕ
capital [] = []
capital (c ∷ cs) = to_ascii_uppercase c ∷ cs

-- a line that leaves its row live has a WHEN bullet: CAN, EXP, UPG and ROU have none
abbrev pub has_when_bullet : Action → Bool
has_when_bullet a = leaves_live a

-- the WHEN bullet of a line in a product of minute t
unfoldable pub when_of : SegLine → LocalZone → ℕ → List ℕ
when_of l z t = if has_when_bullet l.action then codes "* WHEN..." ++ capital (period_of z t l.begin l.end) ++ codes "." else []

-- the words of a line's period, which its headline and its WHEN bullet say
abbrev pub line_period_text : SegLine → LocalZone → ℕ → List ℕ
line_period_text l z t = if has_when_bullet l.action then period_of z t l.begin l.end else []

-- the WHEN bullet with the words of its period
abbrev pub when_bullet_text : Action → List ℕ → List ℕ
when_bullet_text action period = if has_when_bullet action then codes "* WHEN..." ++ capital period ++ codes "." else []
