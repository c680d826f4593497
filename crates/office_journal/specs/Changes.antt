-- How a history grows: by one entry, or by the mark.
use Rattle.std.specs.Prelude.{◌≡◌, ◌⊎◌, ℕ, List, [], ◌∷◌, ◌++◌, Option, Some}
use Rattle.office_types.specs.declared.request.Edition.TheVariants.{One, Two}
use Rattle.office_core.specs.Histories.{Entered, IsNext}
use Rattle.office_core.specs.State.{State}
use Rattle.office_journal.specs.Bodies.{entry_body, mark}
use Rattle.office_journal.specs.Histories.{History, IsHistory, ImageOf, fits}

pub data Change : Type 0 where
  entry : Entered → Change
  marked : Change

abbrev pub body_of : Change → List ℕ
body_of (Change.entry x) = entry_body x
body_of Change.marked = mark

abbrev pub changed : History → Change → History
changed h (Change.entry x) = record { entries = h.entries ++ x ∷ []; edition = h.edition }
changed h Change.marked = record { entries = h.entries; edition = Two }

-- the entry is one of the edition of now, accepted at the state of those before it
pub record IsNextEntry (file : List ℕ) (h : History) (x : Entered) : Type 0 where
  pub state : State
  pub history : IsHistory file h state
  pub edition : x.entry.edition ≡ h.edition
  pub next : State
  pub accepted : IsNext (fits file) h.entries state x next

-- the history may grow so
abbrev pub MayChange : List ℕ → History → Change → Type 0
MayChange file h (Change.entry x) = IsNextEntry file h x
MayChange file h Change.marked = h.edition ≡ One

-- one of two changes that may be under way
abbrev pub IsEither : Option Change → Change → Change → Type 0
IsEither pending this change = (pending ≡ Some change) ⊎ (this ≡ change)

-- an image of the history, or of it with a change of which this is said
abbrev pub Leaves : List ℕ → History → (Change → Type 0) → List ℕ → Type 0
Leaves file h P bytes = ImageOf bytes file h ⊎ ((change : Change) × P change × ImageOf bytes file (changed h change))
