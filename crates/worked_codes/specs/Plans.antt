-- The plans of a script: one segment with one line.
use Rattle.std.specs.Prelude.{◌≡◌, ◌≤◌, ℕ, false, IsSome, List, [], ◌∷◌, Option}
use Rattle.std.specs.List.{All}
use Rattle.hazard_types.specs.Places.{Place}
use Rattle.hazard_types.specs.declared.codes.Category.{Category}
use Rattle.hazard_types.specs.declared.codes.Class.{Class}
use Rattle.hazard_types.specs.declared.line.SegLine.{SegLine}
use Rattle.office_types.specs.declared.request.Plan.{Plan}
use Rattle.office_types.specs.declared.request.Texts.{Texts}
use Rattle.desk_settings.specs.Looking.{name_for_zone}
use Rattle.desk_settings.specs.declared.settings.Settings.{Settings}
use Rattle.product_template.specs.Bodies.{is_training}
use Rattle.product_template.specs.Conditions.{CanBeWritten, ArePrintable, IsLetter}

abbrev pub plan_of : Category → Option ℕ → List Place → SegLine → Texts → Plan
plan_of category letter zones line texts = record {
  category = category;
  bbb = letter;
  lines = [];
  segments = record { zones = zones; lines = line ∷ [] } ∷ [];
  opened = [];
  texts = record { event = line.event; texts = texts } ∷ [];
}

-- what is asked of a line, its zones, its texts, the letter and the minute
pub record Fits (settings : Settings) (class : Class) (letter : Option ℕ) (zones : List Place) (line : SegLine) (texts : Texts) (t : ℕ) : Type 0 where
  pub said : CanBeWritten line
  pub named : is_training class ≡ false → All (λ z. IsSome (name_for_zone settings.zones z)) zones
  pub printable : ArePrintable (record { event = line.event; texts = texts })
  pub capital : IsLetter letter
  pub minute : t ≤ 52000000
