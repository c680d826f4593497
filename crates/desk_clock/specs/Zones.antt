-- The zones of offices: their rules, and which abbreviation stands for a minute.
use Rattle.std.specs.Prelude.{ℕ, ◌+◌, ◌*◌, ℤ, pos, neg_ℤ, ◌*ℤ◌, List, codes, Option, Some, None, if◌then◌else◌}
use Rattle.std.specs.Ordering.{int_eq}
use Rattle.hazard_types.specs.declared.codes.LocalZone.{LocalZone}
use Rattle.hazard_types.specs.declared.codes.LocalZone.TheVariants.{Atlantic, Eastern, Central, Mountain, Arizona, Pacific, Alaska, Hawaii, Utc}
use Rattle.desk_clock.specs.declared.abbreviations.Abbreviation.{Abbreviation}
use Rattle.desk_clock.specs.declared.abbreviations.Abbreviation.TheVariants as abbreviation
use Rattle.desk_clock.specs.Abbreviations.{hours_behind}
use Rattle.desk_clock.specs.Rules.{text_offset}

-- the time of a zone: its POSIX rule for all years, the abbreviation of standard time, and that of
-- daylight time where the zone has it
abbrev time_of : LocalZone → List ℕ × Abbreviation × Option Abbreviation
time_of Atlantic = (codes "AST4", abbreviation.Ast, None)
time_of Eastern = (codes "EST5EDT,M3.2.0,M11.1.0", abbreviation.Est, Some abbreviation.Edt)
time_of Central = (codes "CST6CDT,M3.2.0,M11.1.0", abbreviation.Cst, Some abbreviation.Cdt)
time_of Mountain = (codes "MST7MDT,M3.2.0,M11.1.0", abbreviation.Mst, Some abbreviation.Mdt)
time_of Arizona = (codes "MST7", abbreviation.Mst, None)
time_of Pacific = (codes "PST8PDT,M3.2.0,M11.1.0", abbreviation.Pst, Some abbreviation.Pdt)
time_of Alaska = (codes "AKST9AKDT,M3.2.0,M11.1.0", abbreviation.Akst, Some abbreviation.Akdt)
time_of Hawaii = (codes "HST10", abbreviation.Hst, None)
time_of Utc = (codes "UTC0", abbreviation.Utc, None)

abbrev pub rule_text : LocalZone → List ℕ
rule_text z = (time_of z).0

abbrev pub standard : LocalZone → Abbreviation
standard z = (time_of z).1

abbrev pub daylight : LocalZone → Option Abbreviation
daylight z = (time_of z).2

-- how far the zone's clock is ahead of UTC in a minute, in seconds; the instant is in nanoseconds from 1970
unfoldable pub offset_of : LocalZone → ℕ → ℤ
offset_of z m = text_offset (rule_text z) (pos (946684800 + m * 60) *ℤ pos 1000000000)

abbrev pub chosen : Option Abbreviation → Abbreviation → ℤ → Abbreviation
chosen None usual offset = usual
chosen (Some summer) usual offset = if int_eq offset (neg_ℤ (pos (3600 * hours_behind summer))) then summer else usual

-- the daylight abbreviation where the rule gives its offset, else the standard one
abbrev pub abbreviation_at : LocalZone → ℕ → Abbreviation
abbreviation_at z m = chosen (daylight z) (standard z) (offset_of z m)
