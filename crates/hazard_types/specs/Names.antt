-- The texts of significances, kinds, zones, hazards and events, as they are written and read.
use Rattle.std.specs.Prelude.{◌==◌, ◌&&◌, ◌+◌, ◌-◌, ◌*◌, ℕ, Bool, List, [], ◌∷◌, ◌++◌, length, take, slice_index, nat_lt, nat_le, if◌then◌else◌, Option, Some, None, option_map, option_and_then, codes}
use Rattle.std.specs.Str.{bytes_eq}
use Rattle.hazard_types.specs.Calendar.{is_digit}
use Rattle.hazard_types.specs.Digits.{three_digits, wide}
use Rattle.hazard_types.specs.Hazards.{hazard_code}
use Rattle.hazard_types.specs.Places.{Place, is_capital}
use Rattle.hazard_types.specs.declared.codes.Category.{Category}
use Rattle.hazard_types.specs.declared.codes.Category.TheVariants as category
use Rattle.hazard_types.specs.declared.zone.Kind.{Kind}
use Rattle.hazard_types.specs.declared.zone.Kind.TheVariants as kind
use Rattle.hazard_types.specs.declared.hazard.Sig.{Sig}
use Rattle.hazard_types.specs.declared.hazard.Sig.TheVariants as sig
use Rattle.hazard_types.specs.declared.hazard.Hazard.{Hazard}
use Rattle.hazard_types.specs.declared.hazard.Event.{Event}

abbrev pub sig_at : ℕ → Option Sig
sig_at c =
    if c == 87 then Some sig.W
    else (if c == 65 then Some sig.A
    else (if c == 89 then Some sig.Y
    else (if c == 83 then Some sig.S
    else (if c == 70 then Some sig.F
    else (if c == 79 then Some sig.O
    else (if c == 78 then Some sig.N else None))))))

-- C for counties, Z for forecast zones
abbrev pub kind_code : Kind → ℕ
kind_code kind.C = 67
kind_code kind.Z = 90

abbrev pub kind_at : ℕ → Option Kind
kind_at c = if c == 67 then Some kind.C else (if c == 90 then Some kind.Z else None)

-- the text of a zone, as MDZ003
abbrev pub zone_text : Place → List ℕ
zone_text p = p.state ++ kind_code p.kind ∷ three_digits p.number

-- the number that three digits at an index are
abbrev pub three_at : List ℕ → ℕ → ℕ
three_at bs i =
    100 * (slice_index bs i - 48) + 10 * (slice_index bs (i + 1) - 48)
    + (slice_index bs (i + 2) - 48)

-- the zone of a text: two capital letters, C or Z, and three digits that are not 000
unfoldable pub zone_at : List ℕ → Option Place
zone_at bs =
    if (length bs == 6) && is_capital (slice_index bs 0) && is_capital (slice_index bs 1)
    && is_digit (slice_index bs 3) && is_digit (slice_index bs 4) && is_digit (slice_index bs 5)
    && nat_lt 0 (three_at bs 3)
    then option_map (λ k.
    record { state = slice_index bs 0 ∷ slice_index bs 1 ∷ []; kind = k; number = three_at bs 3 })
    (kind_at (slice_index bs 2))
    else None

-- the hazard of a text such as WS.W: any two capital letters, a dot and a significance
unfoldable pub hazard_at : List ℕ → Option Hazard
hazard_at bs =
    if (length bs == 4) && is_capital (slice_index bs 0) && is_capital (slice_index bs 1)
    && (slice_index bs 2 == 46)
    then option_map (λ s. record { phen = slice_index bs 0 ∷ slice_index bs 1 ∷ []; sig = s })
    (sig_at (slice_index bs 3))
    else None

-- the three letters of a category
abbrev pub category_code : Category → List ℕ
category_code category.Wsw = codes "WSW"
category_code category.Npw = codes "NPW"
category_code category.Rfw = codes "RFW"
category_code category.Cfw = codes "CFW"
category_code category.Mww = codes "MWW"
category_code category.Ffa = codes "FFA"
category_code category.Flw = codes "FLW"
category_code category.Fls = codes "FLS"

-- the text of an event, as WS.W.0001.2018
abbrev pub event_text : Event → List ℕ
event_text e = hazard_code e.hazard ++ (codes "." ++ (wide e.etn ++ (codes "." ++ wide e.year)))

-- the number that four digits are
unfoldable pub parse_four_digits : ℕ → ℕ → ℕ → ℕ → Option ℕ
parse_four_digits a b c d =
    if is_digit a && is_digit b && is_digit c && is_digit d
    then Some (1000 * (a - 48) + 100 * (b - 48) + 10 * (c - 48) + (d - 48))
    else None

-- the event, if its number is not 0 and its year is 2000 to 2099
abbrev pub event_if : Hazard → ℕ → ℕ → Option Event
event_if h etn year =
    if nat_le 1 etn && nat_le 2000 year && nat_le year 2099
    then Some (record { hazard = h; etn = etn; year = year })
    else None

abbrev pub number_at : List ℕ → ℕ → Option ℕ
number_at bs i =
    parse_four_digits (slice_index bs i) (slice_index bs (i + 1)) (slice_index bs (i + 2))
    (slice_index bs (i + 3))

-- the event of a text: a hazard, four digits of a number and four of a year, with dots between
unfoldable pub event_at : List ℕ → Option Event
event_at bs = if (length bs == 14) && (slice_index bs 4 == 46) && (slice_index bs 9 == 46)
    then option_and_then (λ h. option_and_then (λ etn. option_and_then (λ year. event_if h etn year)
    (number_at bs 10)) (number_at bs 5)) (hazard_at (take 4 bs))
    else None

-- a river flood: its phenomenon is FL
abbrev pub is_fl_phenomenon : Hazard → Bool
is_fl_phenomenon h = bytes_eq h.phen (codes "FL")
