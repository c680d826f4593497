-- A line as a text prints it, without its year, and when the line is read off it again.
use Rattle.std.specs.Prelude.{◌≡◌, ℕ, true, List, Option, Some, None}
use Rattle.std.specs.List.{All}
use Rattle.hazard_types.specs.ZoneLines.{ZoneLine}
use Rattle.hazard_types.specs.declared.codes.Class.{Class}
use Rattle.hazard_types.specs.declared.line.Line.{Line}
use Rattle.hazard_types.specs.declared.line.Row.{Row}
use Rattle.hazard_types.specs.declared.period.End.{End}
use Rattle.hazard_types.specs.declared.period.End.TheVariants.{At, Ufn}
use Rattle.event_life.specs.Periods.{keeps_open}

-- until further notice is printed as zeros
abbrev pub printed_end : End → Option ℕ
printed_end (At m) = Some m
printed_end Ufn = None

-- what a text of this class and office says of the line's zone
abbrev pub zone_line_of : Class → List ℕ → Line → ZoneLine
zone_line_of class office line = record {
  zone = line.zone;
  vtec = record { class = class; action = line.action; office = office; hazard = line.event.hazard; etn = line.event.etn; begin = line.begin; end = printed_end line.end };
  flood = line.flood;
}

-- open rows of one hazard and number are of one event
abbrev pub IsOneEvent : ℕ → Row → Row → Type 0
IsOneEvent t r s = keeps_open t r ≡ true → keeps_open t s ≡ true → r.event.hazard ≡ s.event.hazard → r.event.etn ≡ s.event.etn → r.event ≡ s.event

-- no two open events have the same hazard and number
abbrev pub HasOneOpen : List Row → ℕ → Type 0
HasOneOpen rows t = All (λ r. All (λ s. IsOneEvent t r s) rows) rows
