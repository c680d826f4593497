-- Parts whose zones rise, and seats that lines speak of for the first time.
use Rattle.std.specs.Prelude.{◌≡◌, ◌&&◌, ◌||◌, Bool, true, List, [], ◌∷◌, Option, Some, None}
use Rattle.std.specs.List.{list_any}
use Rattle.std.specs.Ordering.{is_lt}
use Rattle.hazard_types.specs.Places.{Place, by_place}
use Rattle.hazard_types.specs.declared.hazard.Event.{Event}
use Rattle.hazard_types.specs.declared.line.Line.{Line}
use Rattle.row_index.specs.declared.seats.Seat.{Seat}
use Rattle.row_index.specs.declared.verdicts.Part.{Part}
use Rattle.row_index.specs.Seating.{key_of_line, speaks}
use Rattle.row_index.specs.Telling.{Tells}
use Rattle.row_index.specs.Verdicts.{AreFirst}

-- the zone is behind the last one, if there is one
abbrev pub is_after_last_zone : Option Place → Place → Bool
is_after_last_zone None z = true
is_after_last_zone (Some last) z = is_lt (by_place last z)

-- zones rise behind the last one
abbrev pub zones_rise : Option Place → List Place → Bool
zones_rise last [] = true
zones_rise last (z ∷ zones) = is_after_last_zone last z && zones_rise (Some z) zones

-- the last one is then this
abbrev pub last_zone : Option Place → List Place → Option Place
last_zone last [] = last
last_zone last (z ∷ zones) = last_zone (Some z) zones

-- and so do the zones of all parts
abbrev pub all_rise : Option Place → List Part → Bool
all_rise last [] = true
all_rise last (p ∷ parts) = zones_rise last p.zones.now && all_rise (last_zone last p.zones.now) parts

-- the events of lines, in whatever order
abbrev pub AreEventsOf : List Event → List Line → Type 0
AreEventsOf events lines = (q : Event → Bool) → list_any q events ≡ list_any (λ (l : Line). q l.event) lines

-- no line is a second one behind those that spoke of these seats
abbrev pub AreNew : List Seat → List Line → Type 0
AreNew seats lines = (earlier : List Line) → Tells speaks key_of_line seats earlier → AreFirst earlier lines

-- the seats with those that lines speak of, in whatever order
abbrev pub SaysAll : List Seat → List Seat → List Line → Type 0
SaysAll old new lines = (q : Seat → Bool) → list_any q new ≡ (list_any q old || list_any (λ (l : Line). speaks l && q (key_of_line l)) lines)

-- lines spoke, none of them a second one
pub record Spoke (old new : List Seat) (lines : List Line) : Type 0 where
  pub are_new : AreNew old lines
  pub said : SaysAll old new lines
