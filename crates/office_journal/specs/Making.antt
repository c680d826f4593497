-- What may stand in the file while the journal of an office is made.
use Rattle.std.specs.Prelude.{◌≡◌, ◌⊎◌, ℕ, List, Ok}
use Rattle.hazard_types.specs.declared.codes.Class.TheVariants.{O}
use Rattle.office_types.specs.declared.request.Edition.TheVariants.{One, Two}
use Rattle.desk_settings.specs.Reading.{settings_of}
use Rattle.desk_settings.specs.declared.settings.Settings.{Settings}
use Rattle.journal_core.specs.Create.{IsUnopened}
use Rattle.journal_core.specs.Image.{Fresh}
use Rattle.office_core.specs.State.{first_state}
use Rattle.office_journal.specs.Histories.{ImageOf, empty}
use Rattle.office_journal.specs.Kept.{entries_of, state_of}
use Rattle.office_journal.specs.declared.faults.KeepFault.{KeepFault}
use Rattle.office_journal.specs.declared.faults.KeepFault.TheVariants.{NotFresh, DiskFault, OutOfMemory}
use Rattle.office_journal.specs.declared.kept.KeptOffice.{KeptOffice}

-- It is fresh, an image of the empty history in either edition, or such an image but for another byte at its beginning.
abbrev pub IsMakingOf : List ℕ → List ℕ → Type 0
IsMakingOf file bytes = Fresh bytes ⊎ ImageOf bytes file (empty One) ⊎ ImageOf bytes file (empty Two) ⊎ IsUnopened file bytes

-- the office that has these settings, before any request, in edition Two
pub record IsMadeFor {D : Type 0} {d : _} (file : List ℕ) (kept : KeptOffice D d) : Type 0 where
  pub settings : Settings
  pub read : settings_of file ≡ Ok settings
  pub state : state_of kept ≡ first_state settings O Two
  pub entries : entries_of kept ≡ 0

-- why a journal is not made once the settings are read
abbrev pub IsMakingFault : KeepFault → Type 0
IsMakingFault NotFresh = Unit {0}
IsMakingFault DiskFault = Unit {0}
IsMakingFault OutOfMemory = Unit {0}
IsMakingFault _ = ⊥
