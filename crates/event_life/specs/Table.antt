-- The table of the lawful step: what a line may do to the life of its event in its zone.
use Rattle.std.specs.Prelude.{◌==◌, ◌&&◌, ◌||◌, not, ℕ, ◌+◌, Bool, true, false, List, [], ◌∷◌, nat_lt, nat_le, min, if◌then◌else◌, Option, Some, None, is_none, unwrap_or, Result, Ok, Err}
use Rattle.hazard_types.specs.declared.codes.Action.{Action}
use Rattle.hazard_types.specs.declared.codes.Action.TheVariants.{New, Con, Exa, Ext, Exb, Upg, Can, Exp, Cor, Rou}
use Rattle.hazard_types.specs.declared.period.End.{End}
use Rattle.hazard_types.specs.declared.period.End.TheVariants.{At, Ufn}
use Rattle.hazard_types.specs.declared.period.Period.{Period}
use Rattle.hazard_types.specs.declared.line.Flood.{Flood}
use Rattle.hazard_types.specs.declared.line.Line.{Line}
use Rattle.event_life.specs.declared.life.Life.{Life}
use Rattle.event_life.specs.declared.life.Around.{Around}
use Rattle.event_life.specs.declared.life.Breach.{Breach}
use Rattle.event_life.specs.declared.life.Breach.TheVariants.{Reopened, NotOpening, NumberHeld, ZeroBegin, TooEarly, NoLength, PeriodMoved, PeriodSame, NotLive, BegunMoved, TooLate, NoHigher}
use Rattle.event_life.specs.Periods.{ends_after, same_end, same_at}

-- a test that is a breach where it holds
infix 5 ◌named◌
abbrev pub ◌named◌ : Bool → Breach → Bool × Breach
test named breach = (test, breach)

-- the first breach of a list whose test holds
abbrev pub first_of : List (Bool × Breach) → Option Breach
first_of [] = None
first_of (row ∷ rows) = if row.0 then Some row.1 else first_of rows

-- the values of a line replace those of the life; a line without leaves them
abbrev pub flood_after : Option Flood → Option Flood → Option Flood
flood_after None line = line
flood_after (Some old) None = Some old
flood_after (Some old) (Some new) = Some new

-- the begin that is printed is the one of a period that begins then; a zero begin is a period that has begun
abbrev pub prints_begin_as_due : Option ℕ → ℕ → ℕ → Bool
prints_begin_as_due None begin t = nat_le begin t
prints_begin_as_due (Some printed) begin t = nat_lt t begin

-- it differs from the begin of the period
abbrev pub moves_begin : Option ℕ → ℕ → Bool
moves_begin None begin = false
moves_begin (Some printed) begin = not (printed == begin)

-- a begin is printed that is at most the minute
abbrev pub prints_begun : Option ℕ → ℕ → Bool
prints_begun None t = false
prints_begun (Some printed) t = nat_le printed t

-- a begin after the minute is printed
abbrev pub prints_to_come : Option ℕ → ℕ → Bool
prints_to_come None t = false
prints_to_come (Some printed) t = nat_lt t printed

-- NEW, EXA, EXB: a zero begin is taken as the minute of the product
abbrev pub opened_period : Line → ℕ → Period
opened_period line t = record { begin = unwrap_or line.begin t; end = line.end }

-- NEW, where a life that no line has ended stands, or none does
abbrev pub on_new : Bool → Line → ℕ → Around → List (Bool × Breach)
on_new stands line t around =
    ((stands || around.opened) named Reopened)
    ∷ (around.held named NumberHeld)
    ∷ (is_none line.begin named ZeroBegin)
    ∷ (nat_lt (unwrap_or line.begin t) t named TooEarly)
    ∷ (not (ends_after line.end (unwrap_or line.begin t)) named NoLength)
    ∷ []

-- EXA, EXB: they differ in the last alone
abbrev pub on_joining : Bool → Line → ℕ → Around → Bool × Breach → List (Bool × Breach)
on_joining stands line t around last =
    (stands named Reopened)
    ∷ (not around.going named NotOpening)
    ∷ (nat_lt (unwrap_or line.begin t) t named TooEarly)
    ∷ (not (ends_after line.end (unwrap_or line.begin t)) named NoLength)
    ∷ last
    ∷ []

-- CON, COR, EXT: a zero begin leaves the begin of a life that has begun, and begins another at the minute
abbrev pub continued_period : Life → Line → ℕ → Period
continued_period life line t = record { begin = unwrap_or line.begin (min life.period.begin t); end = line.end }

-- the period stays
abbrev pub keeps_period : Life → Line → ℕ → Bool
keeps_period life line t = same_at t life.period (continued_period life line t)

-- they differ in the last alone
abbrev pub on_continuing : Life → Line → ℕ → Bool × Breach → List (Bool × Breach)
on_continuing life line t last =
    ((life.ended || not (ends_after life.period.end t)) named NotLive)
    ∷ (prints_begun line.begin t named ZeroBegin)
    ∷ ((prints_to_come line.begin t && nat_le life.period.begin t) named BegunMoved)
    ∷ (not (ends_after line.end (continued_period life line t).begin && ends_after line.end t) named NoLength)
    ∷ last
    ∷ []

-- CAN, EXP, UPG, first
abbrev pub on_ending : Life → Line → ℕ → List (Bool × Breach) → List (Bool × Breach)
on_ending life line t more =
    (life.ended named NotLive)
    ∷ (not (prints_begin_as_due line.begin life.period.begin t) named ZeroBegin)
    ∷ ((moves_begin line.begin life.period.begin || not (same_end line.end life.period.end)) named PeriodMoved)
    ∷ more

-- EXP: not before half an hour before the end, nor after half an hour behind it
abbrev pub expires_early : End → ℕ → Bool
expires_early (At m) t = nat_lt (t + 30) m
expires_early Ufn t = true

abbrev pub expires_late : End → ℕ → Bool
expires_late (At m) t = nat_lt (m + 30) t
expires_late Ufn t = false

-- CAN: before the last half hour
abbrev pub cancels_late : End → ℕ → Bool
cancels_late (At m) t = nat_le m (t + 30)
cancels_late Ufn t = false

-- what may be a breach of a line on a life, in order; ROU has none
abbrev pub on_life : Action → Life → Line → ℕ → Around → List (Bool × Breach)
on_life New life line t around = on_new (not life.ended) line t around
on_life Exa life line t around = on_joining (not life.ended) line t around (not around.same named PeriodMoved)
on_life Exb life line t around = on_joining (not life.ended) line t around (around.same named PeriodSame)
on_life Con life line t around = on_continuing life line t (not (keeps_period life line t) named PeriodMoved)
on_life Cor life line t around = on_continuing life line t (not (keeps_period life line t) named PeriodMoved)
on_life Ext life line t around = on_continuing life line t (keeps_period life line t named PeriodSame)
on_life Can life line t around = on_ending life line t ((cancels_late life.period.end t named TooLate) ∷ [])
on_life Exp life line t around = on_ending life line t ((expires_early life.period.end t named TooEarly) ∷ (expires_late life.period.end t named TooLate) ∷ [])
on_life Upg life line t around = on_ending life line t ((not (ends_after life.period.end t) named TooLate) ∷ (not around.higher named NoHigher) ∷ [])
on_life Rou life line t around = []

-- the same where there is no life
abbrev pub on_nothing : Action → Line → ℕ → Around → List (Bool × Breach)
on_nothing New line t around = on_new false line t around
on_nothing Exa line t around = on_joining false line t around (not around.same named PeriodMoved)
on_nothing Exb line t around = on_joining false line t around (around.same named PeriodSame)
on_nothing Rou line t around = []
on_nothing _ line t around = (true named NotLive) ∷ []

-- the first breach of a line
unfoldable pub breach_of_line : Option Life → Line → ℕ → Around → Option Breach
breach_of_line None line t around = first_of (on_nothing line.action line t around)
breach_of_line (Some life) line t around = first_of (on_life line.action life line t around)

-- what a lawful line leaves of a life; NEW, EXA and EXB make it anew
abbrev pub life_after_line : Action → Life → Line → ℕ → Life
life_after_line Con life line t = record { period = continued_period life line t; flood = flood_after life.flood line.flood; ended = false }
life_after_line Cor life line t = record { period = continued_period life line t; flood = flood_after life.flood line.flood; ended = false }
life_after_line Ext life line t = record { period = continued_period life line t; flood = flood_after life.flood line.flood; ended = false }
life_after_line Can life line t = record { period = life.period; flood = flood_after life.flood line.flood; ended = true }
life_after_line Exp life line t = record { period = life.period; flood = flood_after life.flood line.flood; ended = true }
life_after_line Upg life line t = record { period = life.period; flood = flood_after life.flood line.flood; ended = true }
life_after_line _ life line t = record { period = opened_period line t; flood = line.flood; ended = false }

unfoldable pub life_after_lawful_line : Option Life → Line → ℕ → Life
life_after_lawful_line None line t = record { period = opened_period line t; flood = line.flood; ended = false }
life_after_lawful_line (Some life) line t = life_after_line line.action life line t

-- the breach, or else the value
abbrev pub unless_breach : {X : Type 0} → Option Breach → X → Result X Breach
unless_breach None x = Ok x
unless_breach (Some breach) x = Err breach

-- one step: the first breach, or the life after the line
abbrev pub step : Option Life → Line → ℕ → Around → Result Life Breach
step before line t around = unless_breach (breach_of_line before line t around) (life_after_lawful_line before line t)
