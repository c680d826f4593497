-- The lines of a board: one for each row that is shown.
use Rattle.std.specs.Prelude.{◌≡◌, ◌≤◌, ℕ, List, [], ◌++◌, flat_map, length, take, codes, Option, None, Some}
use Rattle.hazard_types.specs.Calendar.{stamp_of}
use Rattle.hazard_types.specs.Names.{zone_text, event_text}
use Rattle.hazard_types.specs.Times.{end_text}
use Rattle.hazard_types.specs.declared.line.Flood.{Flood}
use Rattle.hazard_types.specs.declared.line.Row.{Row}
use Rattle.hazard_types.specs.declared.period.Period.{Period}
use Rattle.hvtec_string.specs.Columns.{hvtec_text}

-- 180103T1530Z-180104T0000Z; zeros are until further notice
abbrev pub period_text : Period → List ℕ
period_text p = stamp_of p.begin ++ (codes "-" ++ end_text p.end)

-- an H-VTEC text behind a blank, where there is one
abbrev pub flood_part : Option Flood → List ℕ
flood_part None = []
flood_part (Some flood) = codes " " ++ hvtec_text flood

-- MDZ003 WS.W.0001.2018 180103T1530Z-180104T0000Z
abbrev pub row_line : Row → List ℕ
row_line r = zone_text r.zone ++ (codes " " ++ (event_text r.event ++ (codes " " ++ (period_text r.period ++ (flood_part r.flood ++ codes "\n")))))

-- the rows in their order, a line each
abbrev pub board_text : List Row → List ℕ
board_text rows = flat_map row_line rows

-- a text with the lines of the first so many rows behind it
abbrev pub HasFirstRows : List ℕ → List ℕ → List Row → Type 0
HasFirstRows before after rows = (n : ℕ) × (n ≤ length rows) × (after ≡ before ++ board_text (take n rows))
