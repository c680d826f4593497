-- How a fault of the journal is told.
use Rattle.journal_core.specs.declared.faults.AdoptFault.{AdoptFault}
use Rattle.journal_core.specs.declared.faults.AdoptFault.TheVariants as journal
use Rattle.office_journal.specs.declared.faults.KeepFault.{KeepFault}
use Rattle.office_journal.specs.declared.faults.KeepFault.TheVariants as keep

abbrev pub told_as : AdoptFault → KeepFault
told_as journal.Fresh = keep.Fresh
told_as (journal.Damaged at) = keep.Damaged at
told_as journal.DiskFault = keep.DiskFault
told_as journal.OutOfMemory = keep.OutOfMemory
