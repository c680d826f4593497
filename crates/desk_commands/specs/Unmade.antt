-- How a run ends that made no journal.
use Rattle.std.specs.Prelude.{◌≡◌, ◌⊎◌}
use Rattle.office_journal.specs.declared.faults.KeepFault.{KeepFault}
use Rattle.office_journal.specs.declared.faults.KeepFault.TheVariants as keep
use Rattle.program_ends.specs.declared.ends.End.{End}
use Rattle.program_ends.specs.declared.ends.End.TheVariants.{AlreadyKept, DiskFault, OutOfMemory, SettingsRefused}
use Rattle.desk_commands.specs.Commands.{fault_text}

-- the faults that a journal's making tells
abbrev pub MayUnmake : KeepFault → Type 0
MayUnmake keep.Fresh = ⊥
MayUnmake (keep.Damaged at) = ⊥
MayUnmake _ = Unit {0}

-- the end that each of them has; want of memory comes in the place of a fault's text
abbrev pub EndsAs : KeepFault → End → Type 0
EndsAs (keep.Settings fault) end = (end ≡ SettingsRefused (fault_text fault)) ⊎ (end ≡ OutOfMemory)
EndsAs keep.NotFresh end = end ≡ AlreadyKept
EndsAs keep.DiskFault end = end ≡ DiskFault
EndsAs keep.OutOfMemory end = end ≡ OutOfMemory
EndsAs _ end = ⊥
