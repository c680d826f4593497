-- What becomes of a request that is submitted.
use Rattle.std.specs.Prelude.{◌≡◌, ◌⊎◌, ◌+◌, ◌<◌, ℕ, ℤ, List, length, Option, None, Some}
use Rattle.office_types.specs.declared.request.Request.{Request}
use Rattle.office_core.specs.Histories.{Entered}
use Rattle.office_core.specs.Prepared.{IsReady, Readied}
use Rattle.office_core.specs.State.{State}
use Rattle.office_core.specs.Step.{Accepts, entry_of}
use Rattle.office_core.specs.Views.{OfficeView}
use Rattle.request_json.specs.Formed.{HasForm}
use Rattle.office_journal.specs.Bodies.{entry_body}
use Rattle.office_journal.specs.Changes.{Change}

-- the office accepts the request, journal or not, and this is its entry
pub record IsOffered (s : State) (desk : List ℕ) (seq : ℕ) (r : Request) (reading : ℤ) (x : Entered) : Type 0 where
  pub accepted : Accepts s desk seq r reading x.entry.minute x.made
  pub entry : x.entry ≡ entry_of s desk seq r x.entry.minute x.made

-- its record has no room behind the last gate
abbrev pub IsTooLong : ℕ → Entered → Type 0
IsTooLong gate x = 268435456 < gate + 6 + length (entry_body x)

-- the change is the entry of this request
abbrev pub IsAsked : State → List ℕ → ℕ → Request → ℤ → Change → Type 0
IsAsked s desk seq r reading change = (x : Entered) × IsOffered s desk seq r reading x × (change ≡ Change.entry x)

-- what may be pending after a disk fault: nothing, what was pending before, or this change
abbrev pub MayTouch : Option Change → Change → Option Change → Type 0
MayTouch pending this None = Unit {0}
MayTouch pending this (Some change) = (pending ≡ Some change) ⊎ (change ≡ this)

-- what was prepared, as an entry of the history
abbrev pub entered : Readied → Entered
entered p = record { entry = p.entry; made = p.made }

-- it was prepared at this office, for a request with the form of requests
pub record MayEnter (o : OfficeView) (p : Readied) : Type 0 where
  pub desk : List ℕ
  pub seq : ℕ
  pub request : Request
  pub reading : ℤ
  pub form : HasForm (record { desk = desk; seq = seq; request = request })
  pub ready : IsReady o desk seq request reading p
