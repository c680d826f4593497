-- Where a file is no journal of an office.
use Rattle.std.specs.Prelude.{◌≡◌, ◌⊎◌, ℕ, List, [], ◌∷◌, ◌++◌, length}
use Rattle.journal_core.specs.Adopt.{DamagedAt}
use Rattle.journal_core.specs.Image.{Image, records}
use Rattle.office_core.specs.State.{State}
use Rattle.office_journal.specs.Histories.{History, IsHistory, bodies}

-- these are the bodies of a history
pub record AreBodies (all : List (List ℕ)) : Type 0 where
  pub file : List ℕ
  pub history : History
  pub state : State
  pub legal : IsHistory file history state
  pub are : all ≡ bodies file history

-- This is the first body that fails: those before it are the bodies of a history, and with it they are those of none.
pub record FailsAt (all : List (List ℕ)) (at : ℕ) : Type 0 where
  pub before : List (List ℕ)
  pub body : List ℕ
  pub behind : List (List ℕ)
  pub are : all ≡ before ++ body ∷ behind
  pub place : at ≡ length (records before)
  pub good : (before ≡ []) ⊎ AreBodies before
  pub bad : AreBodies (before ++ body ∷ []) → ⊥

-- the records are whole, and a body fails
pub record HasBadBody (bytes : List ℕ) (at : ℕ) : Type 0 where
  pub all : List (List ℕ)
  pub image : Image bytes all
  pub fails : FailsAt all at

-- The file is damaged at this place: at the first gate that is not open or the first record that is not whole; where all are whole, at the first body that fails.
abbrev pub IsDamagedAt : List ℕ → ℕ → Type 0
IsDamagedAt bytes at = DamagedAt bytes at ⊎ HasBadBody bytes at
