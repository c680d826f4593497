-- Rows of what is found in the products of a stream, as C sees them.
use Rattle.std.specs.Prelude.{ℕ, ◌-◌, List, [], ◌∷◌, map, slice_index, None}
use Rattle.hazard_types.specs.Orders.{sig_letter}
use Rattle.hazard_types.specs.Letters.{action_code}
use Rattle.hazard_types.specs.declared.codes.Action.{Action}
use Rattle.hazard_types.specs.declared.hazard.Event.{Event}
use Rattle.hazard_types.specs.declared.line.Row.{Row}
use Rattle.hazard_types.specs.declared.period.End.{End}
use Rattle.hazard_types.specs.declared.period.End.TheVariants.{At, Ufn}
use Rattle.event_life.specs.declared.life.Breach.{Breach}
use Rattle.event_life.specs.declared.life.Breach.TheVariants.{Reopened, NotOpening, NumberHeld, ZeroBegin, TooEarly, NoLength, PeriodMoved, PeriodSame, NotLive, BegunMoved, TooLate, NoHigher, Twice}
use Rattle.product_decoder.specs.declared.types.Found.{Found}
use Rattle.product_decoder.specs.declared.types.GapFound.{GapFound}
use Rattle.product_decoder.specs.declared.types.Track.{Track}
use Rattle.warn_codes_c.specs.declared.rows.EventFields.{EventFields}
use Rattle.warn_codes_c.specs.declared.rows.RowFields.{RowFields}
use Rattle.warn_codes_c.specs.Fields.{zone_fields}
use Rattle.warn_codes_c.specs.Frames.{flood_fields_or_zeros, flag}

abbrev pub event_fields : Event → EventFields
event_fields e = record { number = e.etn; year = e.year; phenomenon = e.hazard.phen; significance = sig_letter e.hazard.sig }

abbrev pub blank_row : RowFields
blank_row = record {
  product = 0;
  issue = 0;
  begin = 0;
  end = 0;
  flood = flood_fields_or_zeros None;
  event = record { number = 0; year = 0; phenomenon = 0 ∷ 0 ∷ []; significance = 0 };
  zone = record { number = 0; state = 0 ∷ 0 ∷ []; kind = 0 };
  wanted = 0;
  action = 0 ∷ 0 ∷ 0 ∷ [];
  breach = 0;
  has_flood = 0;
  kind = 0;
}

-- a lawful line of a life
abbrev pub step_row : Track → Action × ℕ → RowFields
step_row life step = record blank_row { kind = 1; event = event_fields life.event; zone = zone_fields life.zone; action = action_code step.0; issue = step.1 }

-- the lines of a life, in the order of the products
abbrev pub steps_in : Track → List RowFields
steps_in life = map (step_row life) life.steps

abbrev pub breach_code : Breach → ℕ
breach_code Reopened = 1
breach_code NotOpening = 2
breach_code NumberHeld = 3
breach_code ZeroBegin = 4
breach_code TooEarly = 5
breach_code NoLength = 6
breach_code PeriodMoved = 7
breach_code PeriodSame = 8
breach_code NotLive = 9
breach_code BegunMoved = 10
breach_code TooLate = 11
breach_code NoHigher = 12
breach_code Twice = 13

-- the number among all products of one that counts from 1 among those without a fault
abbrev pub number_at : List ℕ → ℕ → ℕ
number_at numbers product = slice_index numbers (product - 1)

abbrev pub breach_row : List ℕ → Found → RowFields
breach_row numbers f = record blank_row { kind = 2; event = event_fields f.event; zone = zone_fields f.zone; product = number_at numbers f.product; breach = breach_code f.breach }

-- the event whose number was found, and the number that was wanted
abbrev pub gap_row : GapFound → RowFields
gap_row g = record blank_row { kind = 3; event = record { number = g.found; year = g.year; phenomenon = g.hazard.phen; significance = sig_letter g.hazard.sig }; wanted = g.wanted }

abbrev pub end_number : End → ℕ
end_number (At m) = m
end_number Ufn = 4294967295

abbrev pub live_row : Row → RowFields
live_row r = record blank_row { kind = 4; event = event_fields r.event; zone = zone_fields r.zone; begin = r.period.begin; end = end_number r.period.end; flood = flood_fields_or_zeros r.flood; has_flood = flag r.flood }
