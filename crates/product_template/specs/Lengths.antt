-- How many bytes forecasters' texts have in a product text.
use Rattle.std.specs.Prelude.{ℕ, List, [], ◌∷◌, ◌++◌, ◌+◌, length, if◌then◌else◌}
use Rattle.hazard_types.specs.Same.{same_event}
use Rattle.hazard_types.specs.declared.hazard.Event.{Event}
use Rattle.hazard_types.specs.declared.line.SegLine.{SegLine}
use Rattle.hazard_types.specs.declared.line.Segment.{Segment}
use Rattle.office_types.specs.declared.request.EventTexts.{EventTexts}
use Rattle.office_types.specs.declared.request.Texts.{Texts}
use Rattle.product_template.specs.Bodies.{front_text, back_text}
use Rattle.product_template.specs.declared.lengths.TextLength.{TextLength}

-- the bullets of texts
unfoldable pub texts_length : Texts → ℕ
texts_length texts = length (front_text texts ++ back_text texts)

abbrev pub bullet_length_of : EventTexts → TextLength
bullet_length_of x = record { event = x.event; bytes = texts_length x.texts }

-- the first texts on an event
abbrev pub bullet_length_on : List TextLength → Event → ℕ
bullet_length_on [] e = 0
bullet_length_on (x ∷ told) e = if same_event x.event e then x.bytes else bullet_length_on told e

abbrev pub length_in_lines : List TextLength → List SegLine → ℕ
length_in_lines told [] = 0
length_in_lines told (l ∷ lines) = bullet_length_on told l.event + length_in_lines told lines

abbrev pub length_in_segments : List TextLength → List Segment → ℕ
length_in_segments told [] = 0
length_in_segments told (s ∷ segments) = length_in_lines told s.lines + length_in_segments told segments
