-- The form of a request: its values are in their ranges, and its texts are UTF-8.
use Rattle.std.specs.Prelude.{◌≡◌, ◌<◌, ◌≤◌, ◌^◌, ℕ, IsTrue, IsUtf8, length, Some, IfSome}
use Rattle.std.specs.List.{All}
use Rattle.hazard_types.specs.Characters.{is_location}
use Rattle.hazard_types.specs.Codes.{value_for_code}
use Rattle.office_types.specs.Desks.{is_desk_name}
use Rattle.hazard_types.specs.Places.{IsPlace, are_letters}
use Rattle.hazard_types.specs.Tables.{cause_rows}
use Rattle.hazard_types.specs.declared.hazard.Event.{Event}
use Rattle.hazard_types.specs.declared.hazard.Hazard.{Hazard}
use Rattle.hazard_types.specs.declared.line.Flood.{Flood}
use Rattle.hazard_types.specs.declared.period.Begin.{Begin}
use Rattle.hazard_types.specs.declared.period.Begin.TheVariants as begin
use Rattle.hazard_types.specs.declared.period.End.{End}
use Rattle.hazard_types.specs.declared.period.End.TheVariants as end
use Rattle.office_types.specs.declared.request.EventPart.{EventPart}
use Rattle.office_types.specs.declared.request.EventTexts.{EventTexts}
use Rattle.office_types.specs.declared.request.PutPart.{PutPart}
use Rattle.office_types.specs.declared.request.Request.{Request}
use Rattle.office_types.specs.declared.request.Request.TheVariants as request
use Rattle.office_types.specs.declared.request.RoutinePart.{RoutinePart}
use Rattle.office_types.specs.declared.request.Target.{Target}
use Rattle.office_types.specs.declared.request.Target.TheVariants as target
use Rattle.office_types.specs.declared.request.Texts.{Texts}
use Rattle.request_json.specs.declared.asked.Asked.{Asked}

-- a minute of 2000 to 2099
abbrev pub IsMinute : ℕ → Type 0
IsMinute m = m < 52596000

-- the number of a draft, a product or a place
abbrev pub IsNumber : ℕ → Type 0
IsNumber n = n < 2 ^ 32

-- a hazard whose phenomenon is two capital letters
abbrev pub IsHazard : Hazard → Type 0
IsHazard h = IsTrue (are_letters h.phen) × (length h.phen ≡ 2)

-- an event with a number of 0001 to 9999 and a year of 2000 to 2099
pub record IsEvent (e : Event) : Type 0 where
  pub hazard : IsHazard e.hazard
  pub first_number : 1 ≤ e.etn
  pub last_number : e.etn ≤ 9999
  pub first_year : 2000 ≤ e.year
  pub last_year : e.year ≤ 2099

pub record AreTexts (t : Texts) : Type 0 where
  pub what : IsUtf8 t.what
  pub area : IsUtf8 t.area
  pub impacts : IsUtf8 t.impacts
  pub details : IsUtf8 t.details

pub record AreEventTexts (t : EventTexts) : Type 0 where
  pub event : IsEvent t.event
  pub texts : AreTexts t.texts

-- a location of five of A to Z and 0 to 9, one of the written causes, and times of 2000 to 2099
pub record AreFloodValues (f : Flood) : Type 0 where
  pub site : IsTrue (is_location f.site)
  pub cause : value_for_code cause_rows f.cause ≡ Some f.cause
  pub begin : IfSome f.begin IsMinute
  pub crest : IfSome f.crest IsMinute
  pub end : IfSome f.end IsMinute

abbrev pub IsBegin : Begin → Type 0
IsBegin begin.Now = Unit {0}
IsBegin (begin.At m) = IsMinute m

abbrev pub IsEnd : End → Type 0
IsEnd end.Ufn = Unit {0}
IsEnd (end.At m) = IsMinute m

abbrev pub IsTarget : Target → Type 0
IsTarget (target.Fresh h) = IsHazard h
IsTarget (target.Join e) = IsEvent e

pub record IsPutPart (p : PutPart) : Type 0 where
  pub target : IsTarget p.target
  pub zones : All IsPlace p.zones
  pub begin : IsBegin p.begin
  pub end : IsEnd p.end
  pub flood : IfSome p.flood AreFloodValues
  pub texts : AreTexts p.texts

-- an issue opens an event, and joins none
abbrev pub IsFresh : Target → Type 0
IsFresh (target.Fresh h) = Unit {0}
IsFresh (target.Join e) = ⊥

abbrev pub IsIssuePart : PutPart → Type 0
IsIssuePart p = IsPutPart p × IsFresh p.target

pub record IsEventPart (p : EventPart) : Type 0 where
  pub event : IsEvent p.event
  pub zones : All IsPlace p.zones
  pub texts : AreTexts p.texts

pub record IsRoutinePart (p : RoutinePart) : Type 0 where
  pub hazard : IsHazard p.hazard
  pub zones : All IsPlace p.zones
  pub texts : AreTexts p.texts

-- the form of a request without desk and number
abbrev pub HasRequestForm : Request → Type 0
HasRequestForm (request.Begin c) = Unit {0}
HasRequestForm (request.Issue p) = IsIssuePart p
HasRequestForm (request.Put n p) = IsNumber n × IsPutPart p
HasRequestForm (request.Finish n p) = IsNumber n × IsEventPart p
HasRequestForm (request.Restate n p) = IsNumber n × IsEventPart p
HasRequestForm (request.Routine n p) = IsNumber n × IsRoutinePart p
HasRequestForm (request.Drop n place) = IsNumber n × IsNumber place
HasRequestForm (request.Take n) = IsNumber n
HasRequestForm (request.Discard n) = IsNumber n
HasRequestForm (request.Send n) = IsNumber n
HasRequestForm (request.Correct n ts) = IsNumber n × All AreEventTexts ts

-- the form of a whole request
pub record HasForm (a : Asked) : Type 0 where
  pub desk : IsTrue (is_desk_name a.desk)
  pub counted : 1 ≤ a.seq
  pub seq : IsNumber a.seq
  pub request : HasRequestForm a.request
