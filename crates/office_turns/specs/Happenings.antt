-- What happens to a kept office: entries are added, and its disk fails under some.
use Rattle.std.specs.Prelude.{◌+◌, ◌++◌, ℕ, List, [], ◌∷◌, length}
use Rattle.office_core.specs.Histories.{Entered}
use Rattle.office_core.specs.State.{State}
use Rattle.office_core.specs.Step.{state_after}
use Rattle.office_journal.specs.Bodies.{entry_body}
use Rattle.office_journal.specs.Changes.{Change}
use Rattle.office_journal.specs.Given.{Gave, entries_given}
use Rattle.office_journal.specs.Grown.{Stood}
use Rattle.office_journal.specs.Kept.{disk_of, gate_of, state_of}
use Rattle.office_journal.specs.Submitting.{entered}
use Rattle.office_journal.specs.declared.kept.KeptOffice.{KeptOffice}
use Rattle.office_turns.specs.declared.happening.Happening.{Happening}
use Rattle.office_turns.specs.declared.happening.Happening.TheVariants.{Entry, Fault}

module _ {D : Type 0} {d : _} where
  -- what was given to the disk
  abbrev pub gave_of : Happening D d → Gave
  gave_of (Entry p then) = Gave.added (Change.entry (entered p.value))
  gave_of (Fault p) = Gave.faulted (Change.entry (entered p.value))

  abbrev pub given_by : List (Happening D d) → List Gave
  given_by [] = []
  given_by (x ∷ more) = gave_of x ∷ given_by more

  -- the entries that were added, in order
  abbrev pub entries_in : List (Happening D d) → List Entered
  entries_in happenings = entries_given (given_by happenings)

  -- how often the disk failed
  abbrev pub faults_in : List (Happening D d) → ℕ
  faults_in [] = 0
  faults_in (Entry p then ∷ more) = faults_in more
  faults_in (Fault p ∷ more) = 1 + faults_in more

  -- the disk as the request of each entry was answered, and what had been given to it then
  abbrev pub stood_by : List Gave → List (Happening D d) → List (Stood D)
  stood_by held [] = []
  stood_by held (Entry p then ∷ more) =
      let held' = held ++ gave_of (Entry p then) ∷ [] in record { held = held'; disk = disk_of then.value } ∷ stood_by held' more
  stood_by held (Fault p ∷ more) = stood_by (held ++ gave_of (Fault p) ∷ []) more

-- the state behind these entries
abbrev pub state_behind : State → List Entered → State
state_behind s [] = s
state_behind s (x ∷ entries) = state_behind (state_after s x.entry x.made) entries

-- the place of the last gate behind the records of these entries
abbrev pub gate_after : ℕ → List Entered → ℕ
gate_after gate [] = gate
gate_after gate (x ∷ entries) = gate_after (gate + (5 + length (entry_body x))) entries

module _ {D : Type 0} {d : _} (opened : KeptOffice D d) (happenings : List (Happening D d)) where
  -- the state of an office that was opened so, after what has happened since
  abbrev pub state_at : State
  state_at = state_behind (state_of opened) (entries_in happenings)

  -- and the place of its journal's last gate
  abbrev pub gate_at : ℕ
  gate_at = gate_after (gate_of opened) (entries_in happenings)
