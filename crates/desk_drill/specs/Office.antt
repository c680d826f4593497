-- The office of a drill, and what it answers.
use Rattle.std.specs.Prelude.{◌≡◌, ◌⊎◌, ◌+◌, ℕ, pos, false, List, [], ◌∷◌, ◌++◌, map, Some, codes}
use Rattle.hazard_types.specs.Places.{Place}
use Rattle.hazard_types.specs.declared.codes.Class.TheVariants as class
use Rattle.hazard_types.specs.declared.codes.LocalZone.TheVariants as zone
use Rattle.hazard_types.specs.declared.hazard.Event.{Event}
use Rattle.office_types.specs.declared.refusal.Refusal.{Refusal}
use Rattle.office_types.specs.declared.request.Edition.TheVariants.{One}
use Rattle.office_types.specs.declared.request.Request.TheVariants.{Issue}
use Rattle.desk_settings.specs.AreSettings.{training_headings}
use Rattle.desk_settings.specs.declared.settings.Settings.{Settings}
use Rattle.office_core.specs.State.{State, first_state, last_number}
use Rattle.office_core.specs.Step.{Accepts, Refuses, entry_of, state_after}
use Rattle.office_core.specs.declared.made.Made.{Made}
use Rattle.desk_drill.specs.Requests.{Issued, desk_at, zones_from}

abbrev pub drill_office : List ℕ
drill_office = codes "KDRL"

abbrev pub plain : Place → Place × List ℕ
plain z = (z, codes "Plain")

-- all zones of a drill bear the same name
unfoldable pub drill_zones : List (Place × List ℕ)
drill_zones = map plain (zones_from 0 2000)

abbrev pub drill_desks : List (List ℕ)
drill_desks = desk_at 0 ∷ desk_at 1 ∷ desk_at 2 ∷ desk_at 3 ∷ []

-- the settings of training, with these desks and zones; no other zone is taken
abbrev pub drill_settings : Settings
drill_settings = record {
  office = drill_office;
  site = codes "DRL";
  office_line = codes "Training office";
  zone = zone.Utc;
  desks = drill_desks;
  headings = training_headings;
  zones = drill_zones;
  any_zone = false;
}

-- the office, how many requests were accepted and refused, and the events that were opened, in order
pub record Drilled : Type 0 where
  pub state : State
  pub accepted : ℕ
  pub refused : ℕ
  pub opened : List Event

-- before the first request: texts of class O in the first edition, no row and no product
abbrev pub first_drilled : Drilled
first_drilled = record { state = first_state drill_settings class.O One; accepted = 0; refused = 0; opened = [] }

-- a request has the number behind its desk's last accepted one
abbrev pub next_number : State → List ℕ → ℕ
next_number s desk = last_number s desk + 1

-- The request breaks a rule of the office, and nothing else changes.
pub record IsRefused (d : Drilled) (r : Issued) (next : Drilled) : Type 0 where
  pub rule : Refusal
  pub broken : Refuses d.state r.desk (next_number d.state r.desk) (Issue r.part) (pos r.minute) rule
  pub after : next ≡ record { state = d.state; accepted = d.accepted; refused = d.refused + 1; opened = d.opened }

-- The office accepts the request: the state is the one behind its entry.
pub record IsAccepted (d : Drilled) (r : Issued) (next : Drilled) : Type 0 where
  pub minute : ℕ
  pub made : Made
  pub accepted : Accepts d.state r.desk (next_number d.state r.desk) (Issue r.part) (pos r.minute) minute (Some made)
  pub after : next ≡ record {
    state = state_after d.state (entry_of d.state r.desk (next_number d.state r.desk) (Issue r.part) minute (Some made)) (Some made);
    accepted = d.accepted + 1;
    refused = d.refused;
    opened = d.opened ++ made.opened;
  }

abbrev pub Answers : Drilled → Issued → Drilled → Type 0
Answers d r next = IsRefused d r next ⊎ IsAccepted d r next

-- the requests were answered one after another, which led from one office to another
abbrev pub LeadsTo : Drilled → List Issued → Drilled → Type 0
LeadsTo d [] z = z ≡ d
LeadsTo d (r ∷ rs) z = (next : Drilled) × Answers d r next × LeadsTo next rs z
