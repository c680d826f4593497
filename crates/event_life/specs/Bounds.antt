-- Which lines are lawful, action by action, in plain inequalities.
use Rattle.std.specs.Prelude.{◌≡◌, ◌⊎◌, ◌≤◌, ◌<◌, ◌+◌, ⊤, ℕ, true, false, min, Option, Some, None, unwrap_or, IfSome, IsSomeAnd, MatchOption}
use Rattle.hazard_types.specs.declared.period.End.{End}
use Rattle.hazard_types.specs.declared.period.End.TheVariants.{At, Ufn}
use Rattle.hazard_types.specs.declared.period.Period.{Period}
use Rattle.hazard_types.specs.declared.line.Line.{Line}
use Rattle.event_life.specs.declared.life.Life.{Life}
use Rattle.event_life.specs.declared.life.Around.{Around}

-- the minute is before the end; until further notice it always is
abbrev pub IsBefore : ℕ → End → Type 0
IsBefore t (At m) = t < m
IsBefore t Ufn = ⊤

-- more than half an hour is left; until further notice it always is
abbrev pub IsLongBefore : ℕ → End → Type 0
IsLongBefore t (At m) = t + 30 < m
IsLongBefore t Ufn = ⊤

-- the minute is within half an hour of the end, either way; until further notice it never is
abbrev pub IsNear : ℕ → End → Type 0
IsNear t (At m) = (m ≤ t + 30) × (t ≤ m + 30)
IsNear t Ufn = ⊥

-- the ends are equal, and the begins are equal or both at most the minute
abbrev pub AreSame : ℕ → Period → Period → Type 0
AreSame t p q = (p.end ≡ q.end) × ((p.begin ≡ q.begin) ⊎ ((p.begin ≤ t) × (q.begin ≤ t)))

-- no row stands that no line has ended
abbrev pub HasEnded : Option Life → Type 0
HasEnded before = IfSome before (λ life. life.ended ≡ true)

-- NEW: the event has no rows, its number is free, and a begin is printed that is not past, with an end after it
pub record OpensEvent (line : Line) (t : ℕ) (around : Around) : Type 0 where
  pub no_rows : around.opened ≡ false
  pub number_free : around.held ≡ false
  pub begin : IsSomeAnd line.begin (λ b. (t ≤ b) × IsBefore b line.end)

-- EXA and EXB: the event is open, and the period begins at the printed minute or now, not in the past, and ends after that
pub record JoinsEvent (line : Line) (t : ℕ) (around : Around) : Type 0 where
  pub event_open : around.going ≡ true
  pub begin : t ≤ unwrap_or line.begin t
  pub length : IsBefore (unwrap_or line.begin t) line.end

-- the begin that CON, COR and EXT leave: the printed one, or the smaller of the row's and the minute
abbrev pub begin_left : Life → Line → ℕ → ℕ
begin_left life line t = unwrap_or line.begin (min life.period.begin t)

-- CON, COR and EXT: the row is live, a begin is printed only where both it and the row's are later than the minute, and the new end is after the new begin and the minute
pub record GoesOnFrom (life : Life) (line : Line) (t : ℕ) : Type 0 where
  pub going : life.ended ≡ false
  pub live : IsBefore t life.period.end
  pub printed : IfSome line.begin (λ b. (t < b) × (t < life.period.begin))
  pub length : IsBefore (begin_left life line t) line.end
  pub left : IsBefore t line.end

-- the period is as before
abbrev pub Stays : Life → Line → ℕ → Type 0
Stays life line t = AreSame t life.period (record { begin = begin_left life line t; end = line.end })

-- CAN, EXP and UPG: no line has ended the row, and the line prints its period, the begin as zeros where it has begun
pub record EndsAsPrinted (life : Life) (line : Line) (t : ℕ) : Type 0 where
  pub going : life.ended ≡ false
  pub begun : life.period.begin ≤ t → line.begin ≡ None
  pub later : t < life.period.begin → line.begin ≡ Some life.period.begin
  pub end : line.end ≡ life.period.end

-- a line's H-VTEC values replace those of the life, and a line without leaves them
abbrev pub TakesFlood : Life → Line → Life → Type 0
TakesFlood life line after = MatchOption line.flood (after.flood ≡ life.flood) (λ flood. after.flood ≡ Some flood)

-- what a lawful NEW, EXA or EXB leaves
pub record IsOpened (line : Line) (t : ℕ) (after : Life) : Type 0 where
  pub begin : after.period.begin ≡ unwrap_or line.begin t
  pub end : after.period.end ≡ line.end
  pub flood : after.flood ≡ line.flood
  pub going : after.ended ≡ false

-- what a lawful CON, COR or EXT leaves
pub record IsCarriedOn (life : Life) (line : Line) (t : ℕ) (after : Life) : Type 0 where
  pub begin : after.period.begin ≡ begin_left life line t
  pub end : after.period.end ≡ line.end
  pub flood : TakesFlood life line after
  pub going : after.ended ≡ false

-- what a lawful CAN, EXP or UPG leaves
pub record IsEnded (life : Life) (line : Line) (after : Life) : Type 0 where
  pub period : after.period ≡ life.period
  pub flood : TakesFlood life line after
  pub ended : after.ended ≡ true
