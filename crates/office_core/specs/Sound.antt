-- What holds of an office's state after every entry, so that the next product may be planned and written.
use Rattle.std.specs.Prelude.{◌≡◌, ◌≤◌, Bool, true, false, IsTrue, IsSome, List, length, map, ⊤}
use Rattle.std.specs.List.{All, AllPairs}
use Rattle.std.specs.List.Sorted.{IsStrictlySortedBy}
use Rattle.hazard_types.specs.Characters.{is_location, is_printable}
use Rattle.hazard_types.specs.Places.{Place}
use Rattle.std.specs.List.{list_all}
use Rattle.hazard_types.specs.declared.codes.Category.{Category}
use Rattle.hazard_types.specs.declared.codes.Class.{Class}
use Rattle.hazard_types.specs.declared.line.Flood.{Flood}
use Rattle.hazard_types.specs.declared.line.Line.{Line}
use Rattle.hazard_types.specs.declared.line.Row.{Row}
use Rattle.office_types.specs.declared.request.Draft.{Draft}
use Rattle.office_types.specs.declared.request.Intent.{Intent}
use Rattle.office_types.specs.declared.request.Sent.{Sent}
use Rattle.office_types.specs.declared.request.Texts.{Texts}
use Rattle.desk_settings.specs.AreSettings.{HasForms}
use Rattle.desk_settings.specs.Looking.{name_for_zone}
use Rattle.desk_settings.specs.declared.settings.Settings.{Settings}
use Rattle.event_life.specs.Products.{by_key}
use Rattle.event_numbers.specs.declared.Count.{Count}
use Rattle.action_planner.specs.Conditions.{MayHold}
use Rattle.action_planner.specs.Placed.{zones_of}
use Rattle.action_planner.specs.Standing.{Stands}
use Rattle.action_planner.specs.Texts.{texts_of}
use Rattle.action_planner.specs.Told.{flood_of, passes}
use Rattle.product_template.specs.Bodies.{is_training}
use Rattle.product_template.specs.Conditions.{ArePrintable}
use Rattle.office_core.specs.Making.{Making}
use Rattle.office_core.specs.State.{State}
use Rattle.office_core.specs.declared.heard.DeskRecord.{DeskRecord}

-- the zone has a name, but for training, where it may lack one
abbrev pub IsNamed : Settings → Class → Place → Type 0
IsNamed settings class z = is_training class ≡ false → IsSome (name_for_zone settings.zones z)

-- the location has its form
abbrev pub has_location : Flood → Bool
has_location flood = is_location flood.site

-- printable bytes alone
pub record IsPrintable (t : Texts) : Type 0 where
  pub what : IsTrue (list_all is_printable t.what)
  pub area : IsTrue (list_all is_printable t.area)
  pub impacts : IsTrue (list_all is_printable t.impacts)
  pub details : IsTrue (list_all is_printable t.details)

pub record IsSoundRow (settings : Settings) (class : Class) (row : Row) : Type 0 where
  pub named : IsNamed settings class row.zone
  pub located : passes has_location row.flood ≡ true

-- an intent that a draft of the category may hold, in zones with names, with a location of its form and printable texts
pub record IsSoundIntent (settings : Settings) (class : Class) (c : Category) (i : Intent) : Type 0 where
  pub fits : MayHold c i
  pub named : All (IsNamed settings class) (zones_of i)
  pub located : passes has_location (flood_of i) ≡ true
  pub printable : IsPrintable (texts_of i)

pub record AreSoundIntents (settings : Settings) (class : Class) (c : Category) (intents : List Intent) : Type 0 where
  pub few : length intents ≤ 64
  pub each : All (IsSoundIntent settings class c) intents

abbrev pub IsSoundDraft : Settings → Class → Draft → Type 0
IsSoundDraft settings class d = AreSoundIntents settings class d.category d.intents

-- the lines of a product are apart in event and zone, and its texts are printable
pub record IsSoundProduct (sent : Sent) : Type 0 where
  pub apart : AllPairs (λ (l m : Line). ¬ ((l.event ≡ m.event) × (l.zone ≡ m.zone))) sent.lines
  pub printable : All ArePrintable sent.texts

-- what becomes a product is sound
abbrev pub IsSoundMaking : State → Making → Type 0
IsSoundMaking s Making.none = ⊤
IsSoundMaking s (Making.drafted c intents) = AreSoundIntents s.settings s.class c intents
IsSoundMaking s (Making.corrected sent given) = IsSoundProduct sent × All ArePrintable given

-- the counts are those of the numbers drawn
pub record IsSound (s : State) (counts : List Count) : Type 0 where
  pub forms : HasForms s.settings
  pub training : s.settings.any_zone ≡ true → is_training s.class ≡ true
  pub desks : map (λ (h : DeskRecord). h.desk) s.heard ≡ s.settings.desks
  pub order : IsStrictlySortedBy by_key s.rows
  pub stands : Stands s.rows counts s.last
  pub minute : s.last ≤ 52000000
  pub rows : All (IsSoundRow s.settings s.class) s.rows
  pub few : length s.drafts ≤ 64
  pub drafts : All (IsSoundDraft s.settings s.class) s.drafts
  -- no draft was touched after the last entry
  pub touched : All (λ (d : Draft). d.touched ≤ s.last) s.drafts
  pub most : length s.products ≤ 8192
  pub products : All IsSoundProduct s.products
