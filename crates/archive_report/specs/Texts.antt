-- The words of a report's lines.
use Rattle.std.specs.Prelude.{ℕ, List, [], ◌∷◌, ◌++◌, codes, decimal}
use Rattle.hazard_types.specs.Calendar.{stamp_of}
use Rattle.hazard_types.specs.Names.{zone_text, event_text}
use Rattle.hazard_types.specs.Places.{Place}
use Rattle.hazard_types.specs.declared.codes.Action.{Action}
use Rattle.hazard_types.specs.declared.hazard.Event.{Event}
use Rattle.hazard_types.specs.Letters.{action_code}
use Rattle.event_life.specs.declared.life.Breach.{Breach}
use Rattle.event_life.specs.declared.life.Breach.TheVariants as breach
use Rattle.product_frame.specs.declared.frame.FrameFault.{FrameFault}
use Rattle.product_frame.specs.declared.frame.FrameFault.TheVariants as fault

-- an event in a zone: WS.W.0001.2018 MDZ003
abbrev pub where_text : Event → Place → List ℕ
where_text e z = event_text e ++ (codes " " ++ zone_text z)

-- one step of a life: NEW@180103T1530Z
abbrev pub steps_text : List (Action × ℕ) → List ℕ
steps_text [] = []
steps_text (s ∷ steps) = codes " " ++ (action_code s.0 ++ (codes "@" ++ (stamp_of s.1 ++ steps_text steps)))

abbrev pub breach_name : Breach → List ℕ
breach_name breach.Reopened = codes "Reopened"
breach_name breach.NotOpening = codes "NotOpening"
breach_name breach.NumberHeld = codes "NumberHeld"
breach_name breach.ZeroBegin = codes "ZeroBegin"
breach_name breach.TooEarly = codes "TooEarly"
breach_name breach.NoLength = codes "NoLength"
breach_name breach.PeriodMoved = codes "PeriodMoved"
breach_name breach.PeriodSame = codes "PeriodSame"
breach_name breach.NotLive = codes "NotLive"
breach_name breach.BegunMoved = codes "BegunMoved"
breach_name breach.TooLate = codes "TooLate"
breach_name breach.NoHigher = codes "NoHigher"
breach_name breach.Twice = codes "Twice"

-- a fault's name, and its line where there is one
unfoldable pub fault_text : FrameFault → List ℕ
fault_text fault.NoHeading = codes "NoHeading"
fault_text fault.NoIdentifier = codes "NoIdentifier"
fault_text fault.NoIssueTime = codes "NoIssueTime"
fault_text fault.IssueDisagrees = codes "IssueDisagrees"
fault_text (fault.NoSegmentEnd line) = codes "NoSegmentEnd " ++ decimal line
fault_text (fault.BadUgc line) = codes "BadUgc " ++ decimal line
fault_text (fault.BadVtec line) = codes "BadVtec " ++ decimal line
