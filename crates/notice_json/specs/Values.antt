-- The values of a line's fields.
use Rattle.std.specs.Prelude.{ℕ, ◌&&◌, List, nat_le, if◌then◌else◌, Option, Some, None, option_and_then, codes}
use Rattle.serde_json.specs.Data.{Data}
use Rattle.serde_json.specs.Find.{get, as_number, as_u64}
use Rattle.hazard_types.specs.Calendar.{stamp_at}
use Rattle.json_parts.specs.Json.{text_at}

-- the minute of a member that is a stamp
abbrev pub minute_at : List ℕ → Data → Option ℕ
minute_at key d = option_and_then stamp_at (text_at key d)

-- a watch's number has one to four digits, and is not 0
abbrev pub if_counted : ℕ → Option ℕ
if_counted n = if nat_le 1 n && nat_le n 9999 then Some n else None

abbrev pub number_of : Data → Option ℕ
number_of d = option_and_then if_counted (option_and_then as_u64 (option_and_then as_number (get (codes "number") d)))
