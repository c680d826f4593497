-- What stands in a segment behind its codes.
use Rattle.std.specs.Prelude.{ℕ, Bool, true, false, List, [], ◌∷◌, ◌++◌, map, if◌then◌else◌, Option, Some, None, unwrap_or, codes}
use Rattle.std.specs.List.{flat_map}
use Rattle.hazard_types.specs.Places.{Place}
use Rattle.hazard_types.specs.Same.{same_event}
use Rattle.hazard_types.specs.declared.codes.Class.{Class}
use Rattle.hazard_types.specs.declared.codes.Class.TheVariants.{O, T, E, X}
use Rattle.hazard_types.specs.declared.codes.LocalZone.{LocalZone}
use Rattle.hazard_types.specs.declared.hazard.Event.{Event}
use Rattle.hazard_types.specs.declared.line.SegLine.{SegLine}
use Rattle.hazard_types.specs.declared.line.Segment.{Segment}
use Rattle.office_types.specs.declared.request.Edition.{Edition}
use Rattle.office_types.specs.declared.request.Edition.TheVariants.{One, Two}
use Rattle.office_types.specs.declared.request.EventTexts.{EventTexts}
use Rattle.office_types.specs.declared.request.Texts.{Texts}
use Rattle.desk_settings.specs.Looking.{name_for_zone}
use Rattle.desk_settings.specs.declared.settings.Settings.{Settings}
use Rattle.headline_text.specs.Headlines.{headline_of, when_of}
use Rattle.headline_text.specs.Lines.{has_word}
use Rattle.headline_text.specs.NameLines.{name_lines}
use Rattle.headline_text.specs.Wrapping.{wrapped}
use Rattle.product_frame.specs.declared.write.Body.{Body}

abbrev pub is_training : Class → Bool
is_training T = true
is_training O = false
is_training E = false
is_training X = false

-- the names of zones, as settings have them
abbrev pub zone_names : List (Place × List ℕ) → List Place → List (List ℕ)
zone_names names zones = map (λ z. unwrap_or (name_for_zone names z) []) zones

-- zones have their names on lines, but in training none
abbrev pub names_text : Settings → Class → List Place → List ℕ
names_text settings class zones = if is_training class then [] else name_lines (zone_names settings.zones zones)

-- lines with the end of the last; nothing where there are none
abbrev pub closed : List ℕ → List ℕ
closed [] = []
closed (c ∷ cs) = (c ∷ cs) ++ 10 ∷ []

-- lines with the end of the last and an empty line behind them; nothing where there are none
abbrev pub paragraph : List ℕ → List ℕ
paragraph [] = []
paragraph (c ∷ cs) = (c ∷ cs) ++ 10 ∷ 10 ∷ []

-- the headlines of lines, in their order
abbrev pub headlines : LocalZone → ℕ → List SegLine → List ℕ
headlines z t lines = flat_map (λ l. closed (wrapped (headline_of l z t))) lines

-- a text of a forecaster behind its label; an empty or blank text is left out
abbrev pub bullet : List ℕ → List ℕ → List ℕ
bullet label text = if has_word text then paragraph (wrapped (label ++ text)) else []

-- edition Two says when, where the line has such a bullet
abbrev pub when_text : Edition → LocalZone → ℕ → SegLine → List ℕ
when_text One z t l = []
when_text Two z t l = paragraph (wrapped (when_of l z t))

abbrev pub front_text : Texts → List ℕ
front_text texts = bullet (codes "* WHAT...") texts.what ++ bullet (codes "* WHERE...") texts.area

abbrev pub back_text : Texts → List ℕ
back_text texts = bullet (codes "* IMPACTS...") texts.impacts ++ bullet (codes "* ADDITIONAL DETAILS...") texts.details

-- the bullets of texts around what says when: what and where, when, impacts and details
abbrev pub bullets_around : List ℕ → Option Texts → List ℕ
bullets_around when None = when
bullets_around when (Some texts) = front_text texts ++ (when ++ back_text texts)

-- the bullets of a line
abbrev pub bullets : Edition → LocalZone → ℕ → SegLine → Option Texts → List ℕ
bullets edition z t l texts = bullets_around (when_text edition z t l) texts

-- the first texts on an event
abbrev pub texts_on : List EventTexts → Event → Option Texts
texts_on [] e = None
texts_on (x ∷ xs) e = if same_event x.event e then Some x.texts else texts_on xs e

-- the bullets of lines, in their order
abbrev pub all_bullets : Edition → LocalZone → ℕ → List EventTexts → List SegLine → List ℕ
all_bullets edition z t texts lines = flat_map (λ l. bullets edition z t l (texts_on texts l.event)) lines

-- the headlines, an empty line behind them where there is one, and the bullets
abbrev pub lines_text : Edition → LocalZone → ℕ → List EventTexts → List SegLine → List ℕ
lines_text edition z t texts lines = closed (headlines z t lines) ++ all_bullets edition z t texts lines

abbrev pub body_of : Settings → Class → List EventTexts → ℕ → Edition → Segment → Body
body_of settings class texts t edition s = record { names = names_text settings class s.zones; text = lines_text edition settings.zone t texts s.lines }
