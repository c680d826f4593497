-- What was taken of a product: its lines, judged, of which code holds runs of zones.
use Rattle.std.specs.Prelude.{Bool, ℕ, List, [], Option, is_some, map, flat_map, slice_get, if◌then◌else◌}
use Rattle.event_life.specs.declared.life.Breach.{Breach}
use Rattle.hazard_types.specs.declared.line.Line.{Line}
use Rattle.row_index.specs.declared.verdicts.Run.{Run}
use Rattle.row_index.specs.declared.verdicts.Verdict.{Verdict}

-- a line with its breach, or None where it is lawful
abbrev pub Judged : Type 0
Judged = Line × Option Breach

abbrev pub in_breach : Judged → Bool
in_breach l = is_some l.1

-- What was taken of a product: its issue minute, and its lines of the office and class, judged.
pub record Taken : Type 0 where
  pub issue : ℕ
  pub judged : List Judged

-- a line that was judged, in the zone that it has by itself
abbrev pub judged_by : Verdict → Judged
judged_by v = (v.line, v.breach)

-- what a run says in one zone, if it has any
abbrev pub firsts_in : Run → List Judged
firsts_in r = if is_some (slice_get r.zones 0) then map judged_by r.verdicts else []

-- what runs say in one zone each
abbrev pub firsts_of : List Run → List Judged
firsts_of runs = flat_map firsts_in runs
