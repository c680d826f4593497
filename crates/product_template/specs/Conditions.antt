-- What a plan and settings are where a product text is written.
use Rattle.std.specs.Prelude.{◌≡◌, ◌<◌, ◌≤◌, ℕ, true, false, IsTrue, IsSome, List, length, Option, Some, None}
use Rattle.std.specs.List.{All, list_all}
use Rattle.std.specs.List.Sorted.{IsStrictlySortedBy}
use Rattle.hazard_types.specs.Characters.{is_printable}
use Rattle.hazard_types.specs.Hazards.{facts_of}
use Rattle.hazard_types.specs.Places.{Place, by_place, is_capital}
use Rattle.hazard_types.specs.declared.codes.Action.TheVariants as action
use Rattle.hazard_types.specs.declared.codes.Class.{Class}
use Rattle.hazard_types.specs.declared.line.SegLine.{SegLine}
use Rattle.hazard_types.specs.declared.line.Segment.{Segment}
use Rattle.office_types.specs.declared.request.EventTexts.{EventTexts}
use Rattle.office_types.specs.declared.request.Plan.{Plan}
use Rattle.desk_settings.specs.AreSettings.{HasForms}
use Rattle.desk_settings.specs.Looking.{name_for_zone}
use Rattle.desk_settings.specs.declared.settings.Settings.{Settings}
use Rattle.headline_text.specs.Headlines.{is_minute}
use Rattle.product_frame.specs.LineRules.{HasLocation}
use Rattle.product_template.specs.Bodies.{is_training}

-- a hazard that the desk issues, a number of four digits, a location of its form, and a minute at which an event expires
pub record CanBeWritten (l : SegLine) : Type 0 where
  pub hazard : IsSome (facts_of l.event.hazard)
  pub number : l.event.etn ≤ 9999
  pub location : HasLocation l.flood
  pub expiry : l.action ≡ action.Exp → IsTrue (is_minute l.end)

-- zones in order, each once, of which there is one at least
pub record CanBeSegment (s : Segment) : Type 0 where
  pub some : 0 < length s.zones
  pub order : IsStrictlySortedBy by_place s.zones
  pub lines : All CanBeWritten s.lines

-- each zone has a name
abbrev pub AreNamed : List (Place × List ℕ) → List Segment → Type 0
AreNamed names segments = All (λ (s : Segment). All (λ z. IsSome (name_for_zone names z)) s.zones) segments

-- printable bytes alone
pub record ArePrintable (x : EventTexts) : Type 0 where
  pub what : IsTrue (list_all is_printable x.texts.what)
  pub area : IsTrue (list_all is_printable x.texts.area)
  pub impacts : IsTrue (list_all is_printable x.texts.impacts)
  pub details : IsTrue (list_all is_printable x.texts.details)

abbrev pub IsLetter : Option ℕ → Type 0
IsLetter None = Unit {0}
IsLetter (Some letter) = is_capital letter ≡ true

-- the letter of a correction is a capital; outside training each zone has a name
pub record CanBeText (settings : Settings) (class : Class) (plan : Plan) (t : ℕ) : Type 0 where
  pub forms : HasForms settings
  pub segments : All CanBeSegment plan.segments
  pub names : is_training class ≡ false → AreNamed settings.zones plan.segments
  pub texts : All ArePrintable plan.texts
  pub letter : IsLetter plan.bbb
  pub minute : t ≤ 52000000
