-- The lines of a draft case by case: an intent that speaks of an event in a zone, or none, and what the event's row there is.
use Rattle.std.specs.Prelude.{◌≡◌, ◌⊎◌, ◌≤◌, ◌+◌, ⊤, ℕ, true, false, codes, List, Option, Some, None}
use Rattle.std.specs.List.{All, Any, Contains}
use Rattle.hazard_types.specs.Places.{Place}
use Rattle.hazard_types.specs.declared.codes.Action.TheVariants.{New, Con, Exa, Ext, Exb, Upg, Can, Exp, Rou}
use Rattle.hazard_types.specs.declared.codes.Category.{Category}
use Rattle.hazard_types.specs.declared.hazard.Event.{Event}
use Rattle.hazard_types.specs.declared.hazard.Hazard.{Hazard}
use Rattle.hazard_types.specs.declared.line.Line.{Line}
use Rattle.hazard_types.specs.declared.line.Row.{Row}
use Rattle.hazard_types.specs.declared.period.End.{End}
use Rattle.hazard_types.specs.declared.period.End.TheVariants.{At, Ufn}
use Rattle.hazard_types.specs.declared.period.Period.{Period}
use Rattle.office_types.specs.declared.request.Intent.{Intent}
use Rattle.office_types.specs.declared.request.Intent.TheVariants.{Put, Finish, Restate, Routine}
use Rattle.office_types.specs.declared.request.PutPart.{PutPart}
use Rattle.office_types.specs.declared.request.Target.{Target}
use Rattle.office_types.specs.declared.request.Target.TheVariants.{Fresh, Join}
use Rattle.event_life.specs.Bounds.{AreSame, IsBefore, IsNear}
use Rattle.event_life.specs.Higher.{outranks}
use Rattle.event_life.specs.Products.{row_at}
use Rattle.action_planner.specs.Placed.{Placed, zones_of}
use Rattle.action_planner.specs.Lines.{minute_of, puts_or_finishes}
use Rattle.action_planner.specs.Conditions.{IsFollowedBy}

-- the first where this holds, else the second
abbrev pub FirstWhere : {X : Type 0} → Type 0 → X → X → X → Type 0
FirstWhere P first second x = (P × (x ≡ first)) ⊎ ((¬ P) × (x ≡ second))

-- the minute is at most half an hour past the end
abbrev pub IsNotLongAfter : ℕ → End → Type 0
IsNotLongAfter t (At m) = t ≤ m + 30
IsNotLongAfter t Ufn = ⊤

-- no line has ended the row, and the minute is before its end
abbrev pub IsLive : ℕ → Row → Type 0
IsLive t row = (row.ended ≡ false) × IsBefore t row.period.end

-- each begins before the other ends
abbrev pub Overlap : Period → Period → Type 0
Overlap p q = IsBefore p.begin q.end × IsBefore q.begin p.end

-- the intent is on the event in the zone
abbrev pub SpeaksOf : Placed → Event → Place → Type 0
SpeaksOf p e z = (p.event ≡ e) × Contains (zones_of p.intent) z

-- a begin is printed as zeros where it is at most the minute
abbrev pub Prints : ℕ → ℕ → Option ℕ → Type 0
Prints t begin printed = FirstWhere (begin ≤ t) None (Some begin) printed

-- the line prints the row's period and flood values
abbrev pub PrintsRow : ℕ → Row → Line → Type 0
PrintsRow t row line = Prints t row.period.begin line.begin × (line.end ≡ row.period.end) × (line.flood ≡ row.flood)

-- Puts.

-- a put of a new event: NEW, with the put's begin, end and flood values
pub record Opens (t : ℕ) (part : PutPart) (line : Line) : Type 0 where
  pub action : line.action ≡ New
  pub begin : line.begin ≡ Some (minute_of part.begin t)
  pub end : line.end ≡ part.end
  pub flood : line.flood ≡ part.flood

-- a row of the event, live just before, has the put's period at the minute
abbrev pub HasPeriod : List Row → ℕ → Event → PutPart → Type 0
HasPeriod rows t e part = Any (λ (row : Row). (row.event ≡ e) × IsLive t row × AreSame t row.period (record { begin = minute_of part.begin t; end = part.end })) rows

-- no row stands there, or a line has ended it
abbrev pub IsAbsent : Option Row → Type 0
IsAbsent None = ⊤
IsAbsent (Some row) = row.ended ≡ true

-- a put that joins an event, in a zone without a row of it or whose row a line has ended: EXA where a row of it has the period, else EXB
pub record Joins (rows : List Row) (t : ℕ) (part : PutPart) (line : Line) : Type 0 where
  pub absent : IsAbsent (row_at rows line.event line.zone)
  pub action : FirstWhere (HasPeriod rows t line.event part) Exa Exb line.action
  pub begin : line.begin ≡ Some (minute_of part.begin t)
  pub end : line.end ≡ part.end
  pub flood : line.flood ≡ part.flood

-- on a row that has begun the begin stays, else it is the put's
abbrev pub BeginsOn : ℕ → PutPart → Row → ℕ → Type 0
BeginsOn t part row begin = FirstWhere (row.period.begin ≤ t) row.period.begin (minute_of part.begin t) begin

-- a put that joins an event, on a live row of it: CON where the period stays, else EXT
pub record Continues (rows : List Row) (t : ℕ) (part : PutPart) (line : Line) : Type 0 where
  pub row : Row
  pub there : row_at rows line.event line.zone ≡ Some row
  pub live : IsLive t row
  pub begin : ℕ
  pub begins : BeginsOn t part row begin
  pub action : FirstWhere (AreSame t row.period (record { begin = begin; end = part.end })) Con Ext line.action
  pub printed : Prints t begin line.begin
  pub end : line.end ≡ part.end
  pub flood : line.flood ≡ part.flood

abbrev pub PutSays : List Row → ℕ → PutPart → Target → Line → Type 0
PutSays rows t part (Fresh h) line = Opens t part line
PutSays rows t part (Join e) line = Joins rows t part line ⊎ Continues rows t part line

-- Rows after the product.

-- no put and no finish is on the row, so it stays as it was
abbrev pub Remains : List Row → List Placed → Row → Type 0
Remains rows ps row = Contains rows row × All (λ (p : Placed). SpeaksOf p row.event row.zone → puts_or_finishes p.intent ≡ false) ps

-- the begin that a put leaves in a zone, by the row that stands there
abbrev pub BeginsIn : ℕ → PutPart → Option Row → ℕ → Type 0
BeginsIn t part None begin = begin ≡ minute_of part.begin t
BeginsIn t part (Some row) begin = ((row.ended ≡ true) × (begin ≡ minute_of part.begin t)) ⊎ ((row.ended ≡ false) × BeginsOn t part row begin)

-- a put leaves the row
pub record IsLeftBy (rows : List Row) (t : ℕ) (row : Row) (p : Placed) : Type 0 where
  pub part : PutPart
  pub put : p.intent ≡ Put part
  pub spoken : SpeaksOf p row.event row.zone
  pub begin : BeginsIn t part (row_at rows row.event row.zone) row.period.begin
  pub end : row.period.end ≡ part.end

abbrev pub StandsAfter : List Row → ℕ → List Placed → Row → Type 0
StandsAfter rows t ps row = Remains rows ps row ⊎ Any (IsLeftBy rows t row) ps

-- a row of a higher rank of the family, live after the product, overlaps this one in its zone
pub record IsUnderHigher (rows : List Row) (t : ℕ) (ps : List Placed) (row : Row) : Type 0 where
  pub high : Row
  pub after : StandsAfter rows t ps high
  pub zone : high.zone ≡ row.zone
  pub live : IsLive t high
  pub rank : outranks high.event.hazard row.event.hazard ≡ true
  pub overlap : Overlap high.period row.period

-- Finishes, restates, and rows that go on beside.

-- a finish, of a row that no line has ended and whose end is at most half an hour past: UPG before the end under a higher row, else EXP within half an hour of the end, else CAN
pub record Finishes (rows : List Row) (t : ℕ) (ps : List Placed) (line : Line) : Type 0 where
  pub row : Row
  pub there : row_at rows line.event line.zone ≡ Some row
  pub going : row.ended ≡ false
  pub recent : IsNotLongAfter t row.period.end
  pub action : (IsBefore t row.period.end × IsUnderHigher rows t ps row × (line.action ≡ Upg))
      ⊎ (¬ (IsBefore t row.period.end × IsUnderHigher rows t ps row)) × FirstWhere (IsNear t row.period.end) Exp Can line.action
  pub printed : PrintsRow t row line

-- a restate, of a live row: CON
pub record Restates (rows : List Row) (t : ℕ) (line : Line) : Type 0 where
  pub row : Row
  pub there : row_at rows line.event line.zone ≡ Some row
  pub live : IsLive t row
  pub action : line.action ≡ Con
  pub printed : PrintsRow t row line

-- no intent is on the event in the zone, but one touches the zone: CON of a live row, if its event is of the draft's category and no flood event
pub record IsContinued (c : Category) (rows : List Row) (t : ℕ) (ps : List Placed) (line : Line) : Type 0 where
  pub unspoken : All (λ (p : Placed). ¬ SpeaksOf p line.event line.zone) ps
  pub touched : Any (λ (p : Placed). Contains (zones_of p.intent) line.zone) ps
  pub category : IsFollowedBy c line.event.hazard
  pub no_flood : ¬ (line.event.hazard.phen ≡ codes "FL")
  pub restated : Restates rows t line

-- a routine intent: ROU with zero times and no flood values
pub record IsRoutine (line : Line) : Type 0 where
  pub action : line.action ≡ Rou
  pub begin : line.begin ≡ None
  pub end : line.end ≡ Ufn
  pub flood : line.flood ≡ None

-- what an intent says in one of its zones
abbrev pub Says : List Row → ℕ → List Placed → Intent → Line → Type 0
Says rows t ps (Put part) line = PutSays rows t part part.target line
Says rows t ps (Finish part) line = Finishes rows t ps line
Says rows t ps (Restate part) line = Restates rows t line
Says rows t ps (Routine part) line = IsRoutine line

-- the line of an event in a zone
abbrev pub IsPlanned : Category → List Row → ℕ → List Placed → Line → Type 0
IsPlanned c rows t ps line = Any (λ (p : Placed). SpeaksOf p line.event line.zone × Says rows t ps p.intent line) ps ⊎ IsContinued c rows t ps line

-- New events.

abbrev pub hazard_of_new : Target → Option Hazard
hazard_of_new (Fresh h) = Some h
hazard_of_new (Join e) = None

-- the hazard of a put of a new event
abbrev pub hazard_opened : Intent → Option Hazard
hazard_opened (Put part) = hazard_of_new part.target
hazard_opened (Finish part) = None
hazard_opened (Restate part) = None
hazard_opened (Routine part) = None
