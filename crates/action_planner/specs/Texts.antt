-- The texts of a plan: for each event that has a line, those of the first intent on it.
use Rattle.std.specs.Prelude.{List, [], ◌∷◌, map, if◌then◌else◌}
use Rattle.hazard_types.specs.Same.{same_event}
use Rattle.hazard_types.specs.declared.hazard.Event.{Event}
use Rattle.hazard_types.specs.declared.line.Line.{Line}
use Rattle.office_types.specs.declared.request.EventTexts.{EventTexts}
use Rattle.office_types.specs.declared.request.Intent.{Intent}
use Rattle.office_types.specs.declared.request.Intent.TheVariants.{Put, Finish, Restate, Routine}
use Rattle.office_types.specs.declared.request.Texts.{Texts}
use Rattle.event_life.specs.Openings.{add_event}
use Rattle.action_planner.specs.Placed.{Placed}

abbrev pub texts_of : Intent → Texts
texts_of (Put part) = part.texts
texts_of (Finish part) = part.texts
texts_of (Restate part) = part.texts
texts_of (Routine part) = part.texts

abbrev pub no_texts : Texts
no_texts = record { what = []; area = []; impacts = []; details = [] }

-- those of the first intent on the event; none where no intent is
abbrev pub texts_on : List Placed → Event → Texts
texts_on [] e = no_texts
texts_on (p ∷ ps) e = if same_event p.event e then texts_of p.intent else texts_on ps e

-- the events that have a line, in order, each once
abbrev pub events_of : List Line → List Event
events_of [] = []
events_of (line ∷ lines) = add_event line.event (events_of lines)

abbrev pub event_texts : List Placed → List Event → List EventTexts
event_texts ps events = map (λ (e : Event). record { event = e; texts = texts_on ps e }) events
