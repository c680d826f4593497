-- A plan of one segment and one line that fits can be a text.
use Rattle.std.proofs.Common.{◌≡◌, ◌<◌, ℕ, List, [], ◌∷◌, length, Option, true, is_some}
use Rattle.std.specs.List.{All, AllByRecursion, list_all}
use Rattle.std.specs.List.Sorted.{IsStrictlySortedBy}
use Rattle.std.specs.Prelude.{IsSome}
use Rattle.std.proofs.lemmas.Bool.{and_parts}
use Rattle.std.proofs.lemmas.List.Elements.{All-from_recursion}
use Rattle.hazard_types.specs.Places.{Place, by_place}
use Rattle.hazard_types.specs.declared.codes.Category.{Category}
use Rattle.hazard_types.specs.declared.codes.Class.{Class}
use Rattle.hazard_types.specs.declared.line.SegLine.{SegLine}
use Rattle.hazard_types.specs.declared.line.Segment.{Segment}
use Rattle.office_types.specs.declared.request.EventTexts.{EventTexts}
use Rattle.office_types.specs.declared.request.Texts.{Texts}
use Rattle.desk_settings.specs.AreSettings.{HasForms}
use Rattle.desk_settings.specs.Looking.{name_for_zone}
use Rattle.desk_settings.specs.declared.settings.Settings.{Settings}
use Rattle.product_template.specs.Conditions.{CanBeWritten, CanBeSegment, ArePrintable, CanBeText}
use Rattle.worked_codes.specs.Plans.{plan_of, Fits}

one : {X : Type 0} (P : X → Type 0) (x : X) → P x → All P (x ∷ [])
one P x h = All-from_recursion P (x ∷ []) (h, tt)

pub fitting : (settings : Settings) (class : Class) (category : Category) (letter : Option ℕ) (zones : List Place) (line : SegLine) (texts : Texts) (t : ℕ) → HasForms settings → 0 < length zones → IsStrictlySortedBy by_place zones
    → Fits settings class letter zones line texts t → CanBeText settings class (plan_of category letter zones line texts) t
fitting settings class category letter zones line texts t forms some order fits =
    let s : Segment = record { zones = zones; lines = line ∷ [] } in
    let x : EventTexts = record { event = line.event; texts = texts } in
    record {
      forms = forms;
      segments = one CanBeSegment s (record { some = some; order = order; lines = one CanBeWritten line fits.said });
      names = λ e. one (λ (g : Segment). All (λ z. IsSome (name_for_zone settings.zones z)) g.zones) s (fits.named e);
      texts = one ArePrintable x fits.printable;
      letter = fits.capital;
      minute = fits.minute;
    }

each_some : (names : List (Place × List ℕ)) (zones : List Place) → list_all (λ z. is_some (name_for_zone names z)) zones ≡ true → AllByRecursion (λ z. IsSome (name_for_zone names z)) zones
each_some names [] h = tt
each_some names (z ∷ zones) h =
    let p = and_parts (is_some (name_for_zone names z)) (list_all (λ z. is_some (name_for_zone names z)) zones) h in
    (p.0, each_some names zones p.1)

pub all_some : (names : List (Place × List ℕ)) (zones : List Place) → list_all (λ z. is_some (name_for_zone names z)) zones ≡ true → All (λ z. IsSome (name_for_zone names z)) zones
all_some names zones h = All-from_recursion (λ z. IsSome (name_for_zone names z)) zones (each_some names zones h)
