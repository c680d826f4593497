-- The values that fields have.
use Rattle.std.specs.Prelude.{ℕ, ◌==◌, [], ◌∷◌, Option, Some, None, nat_le, nat_lt, if◌then◌else◌}
use Rattle.hazard_types.specs.Characters.{location_at}
use Rattle.hazard_types.specs.Codes.{value_for_code}
use Rattle.hazard_types.specs.Tables.{class_rows, action_rows, sig_rows, severity_rows, status_rows}
use Rattle.hazard_types.specs.declared.line.Flood.{Flood}
use Rattle.hazard_types.specs.declared.line.Vtec.{Vtec}
use Rattle.hvtec_string.specs.Columns.{cause_at, values as flood_values}
use Rattle.vtec_string.specs.Columns.{office_at, phenomenon_at, values as vtec_values}
use Rattle.warn_codes_c.specs.declared.fields.FloodFields.{FloodFields}
use Rattle.warn_codes_c.specs.declared.fields.VtecFields.{VtecFields}

-- the time of a number, where one has it
abbrev pub time_of : ℕ → Option (Option ℕ)
time_of n = if n == 4294967295 then Some None else (if nat_lt n 52596000 then Some (Some n) else None)

-- a number that is such
abbrev pub number_at : ℕ → Option ℕ
number_at n = if nat_le n 9999 then Some n else None

-- the values that have these fields
unfoldable pub vtec_of : VtecFields → Option Vtec
vtec_of f = vtec_values (value_for_code class_rows (f.class ∷ [])) (value_for_code action_rows f.action) (office_at f.office) (phenomenon_at f.phenomenon) (value_for_code sig_rows (f.significance ∷ [])) (number_at f.number) (time_of f.begin) (time_of f.end)

unfoldable pub flood_of : FloodFields → Option Flood
flood_of f = flood_values (location_at f.location) (value_for_code severity_rows (f.severity ∷ [])) (cause_at f.cause) (time_of f.begin) (time_of f.crest) (time_of f.end) (value_for_code status_rows f.record_status)
