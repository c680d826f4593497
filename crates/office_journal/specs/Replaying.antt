-- What is read from the bodies of a journal.
use Rattle.std.specs.Prelude.{◌≡◌, ◌≢◌, ◌≤◌, ℕ, pos, Bool, true, false, List, [], ◌∷◌, ◌++◌, Option, None, Some, Result, Ok, Err, length}
use Rattle.hazard_types.specs.declared.or.Or.{Or}
use Rattle.hazard_types.specs.declared.or.Or.TheVariants.{No, OutOfMemory}
use Rattle.office_types.specs.declared.request.Edition.{Edition}
use Rattle.office_types.specs.declared.request.Edition.TheVariants.{One, Two}
use Rattle.desk_settings.specs.Reading.{settings_of}
use Rattle.desk_settings.specs.declared.settings.Settings.{Settings}
use Rattle.journal_core.specs.Image.{records}
use Rattle.request_json.specs.declared.asked.Asked.{Asked}
use Rattle.office_core.specs.Agreement.{ReadsAsTheBoard}
use Rattle.office_core.specs.Histories.{Entered}
use Rattle.office_core.specs.Prepared.{IsReady, MayCommit, Readied}
use Rattle.office_core.specs.State.{State}
use Rattle.office_core.specs.Step.{Accepts}
use Rattle.office_core.specs.Views.{OfficeView}
use Rattle.office_core.specs.declared.made.Made.{Made}
use Rattle.office_journal.specs.Bodies.{entry_body}
use Rattle.office_journal.specs.Changes.{IsNextEntry}
use Rattle.office_journal.specs.Damage.{FailsAt}
use Rattle.office_journal.specs.Histories.{History, IsHistory, bodies}
use Rattle.office_journal.specs.Parts.{Enters}
use Rattle.office_journal.specs.Submitting.{entered}
use Rattle.office_journal.specs.declared.replay.Replayed.{Replayed}

-- the most bytes that records have in an edition: the mark may stand behind the last entry that fits
abbrev pub most : Edition → ℕ
most One = 268435456
most Two = 268435470

-- the office of this history, its entries counted, and the bytes of its records
pub record IsReplayed (file : List ℕ) (h : History) (found : Replayed) : Type 0 where
  pub history : IsHistory file h found.office.state
  -- someone who has the texts alone finds the board
  pub reads : ReadsAsTheBoard found.office.state
  pub entries : found.entries ≡ length h.entries
  pub begun : found.office.state.begun ≤ found.entries
  pub recorded : found.entries ≤ found.size
  pub size : found.size ≡ length (records (bodies file h))
  pub within : found.size ≤ most found.office.state.edition

-- these are the bodies of a history, and this is its office
pub record HasTaken (all : List (List ℕ)) (found : Replayed) : Type 0 where
  pub file : List ℕ
  pub history : History
  pub replayed : IsReplayed file history found
  pub are : all ≡ bodies file history

-- the office of a settings' file, unless that does not read as settings
abbrev pub Begins : List ℕ → Option Replayed → Type 0
Begins file (Some found) = HasTaken (file ∷ []) found
Begins file None = (settings : Settings) → settings_of file ≢ Ok settings

-- what is prepared for a request at a minute, unless it is not accepted
abbrev pub Prepares : OfficeView → State → Asked → ℕ → Option Readied → Type 0
Prepares o s a m (Some p) = IsReady o a.desk a.seq a.request (pos m) p
Prepares o s a m None = (t : ℕ) (made : Option Made) → Accepts s a.desk a.seq a.request (pos m) t made → ⊥

-- what is prepared from a body that is an entry's, unless it is that of none
abbrev pub Judges : OfficeView → State → List ℕ → Option Readied → Type 0
Judges o s body (Some p) = MayCommit o p × Enters s (entered p) × (entry_body (entered p) ≡ body)
Judges o s body None = (x : Entered) → Enters s x → entry_body x ≢ body

-- one more body of an entry is taken, or no entry that may follow has it
abbrev pub TakesEntry : Replayed → Replayed → List ℕ → Bool → Type 0
TakesEntry old new body true = (all : List (List ℕ)) → HasTaken all old → HasTaken (all ++ body ∷ []) new
TakesEntry old new body false = ((file : List ℕ) (h : History) (x : Entered) → IsReplayed file h old → IsNextEntry file h x → entry_body x ≢ body) × (new.size ≡ old.size)

-- one more body is taken, or it is the first that fails
abbrev pub Takes : Replayed → Replayed → List ℕ → Bool → Type 0
Takes old new body true = (all : List (List ℕ)) → HasTaken all old → HasTaken (all ++ body ∷ []) new
Takes old new body false = (all behind : List (List ℕ)) → HasTaken all old → FailsAt (all ++ body ∷ behind) new.size

-- the office that is read from bodies, or the place of the first that fails
abbrev pub Replays : List (List ℕ) → Result Replayed (Or ℕ) → Type 0
Replays all (Ok found) = HasTaken all found
Replays all (Err (No at)) = FailsAt all at
Replays all (Err OutOfMemory) = Unit {0}
