-- What requests give to a disk, one after another, and the history behind them.
use Rattle.std.specs.Prelude.{◌≡◌, ◌⊎◌, ◌++◌, ℕ, List, [], ◌∷◌}
use Rattle.office_core.specs.Histories.{Entered}
use Rattle.office_journal.specs.Changes.{Change, Leaves, changed}
use Rattle.office_journal.specs.Histories.{History}

-- What a request gave to the disk: nothing, a change that stands in the journal since, or one under which the disk failed.
pub data Gave : Type 0 where
  nothing : Gave
  added : Change → Gave
  faulted : Change → Gave

-- this change was given
abbrev pub Gives : Gave → Change → Type 0
Gives Gave.nothing change = ⊥
Gives (Gave.added this) change = change ≡ this
Gives (Gave.faulted this) change = change ≡ this

-- the history, and behind it what was added
abbrev pub with_given : History → Gave → History
with_given h Gave.nothing = h
with_given h (Gave.added change) = changed h change
with_given h (Gave.faulted change) = h

abbrev pub history_after : History → List Gave → History
history_after h [] = h
history_after h (g ∷ given) = history_after (with_given h g) given

-- an entry that was added, before others
abbrev pub with_entry : Gave → List Entered → List Entered
with_entry Gave.nothing entries = entries
with_entry (Gave.added (Change.entry x)) entries = x ∷ entries
with_entry (Gave.added Change.marked) entries = entries
with_entry (Gave.faulted change) entries = entries

-- the entries that were added, in order
abbrev pub entries_given : List Gave → List Entered
entries_given [] = []
entries_given (g ∷ given) = with_entry g (entries_given given)

-- What may be pending once this was given, where these changes may have been before: a change under which the disk failed, until one is added.
abbrev pub pends_after : (Change → Type 0) → Gave → Change → Type 0
pends_after may Gave.nothing change = may change
pends_after may (Gave.added this) change = ⊥
pends_after may (Gave.faulted this) change = may change ⊎ (change ≡ this)

abbrev pub MayPend : (Change → Type 0) → List Gave → Change → Type 0
MayPend may [] change = may change
MayPend may (g ∷ given) change = MayPend (pends_after may g) given change

-- what is given next
abbrev pub GivesNext : List Gave → Change → Type 0
GivesNext [] change = ⊥
GivesNext (g ∷ rest) change = Gives g change

-- The file is an image of the history behind a front of what was given, which begins with what is held; or of it with one change more, which may have been pending there or was given next.
pub record IsFront (may : Change → Type 0) (given held : List Gave) (file : List ℕ) (h : History) (c : List ℕ) : Type 0 where
  pub more : List Gave
  pub rest : List Gave
  pub are : given ≡ (held ++ more) ++ rest
  pub left : Leaves file (history_after h (held ++ more)) (λ change. MayPend may (held ++ more) change ⊎ GivesNext rest change) c
