-- What each command does, of all that it may touch as it was before, and as it is after.
use Rattle.std.specs.Prelude.{◌≡◌, ℕ, Option}
use Rattle.desk_traits.specs.declared.clocks.Clock.{Ghosts as Clocks}
use Rattle.desk_traits.specs.declared.disk.Disk.{Ghosts as Disks}
use Rattle.program_ends.specs.Ends.{IsUsage}
use Rattle.desk_commands.specs.Commands.{IsBoardRun, IsExportRun, IsInitRun, IsScriptRun, IsUpgradeRun}
use Rattle.desk_commands.specs.Opening as opening
use Rattle.desk_drill.specs.Runs.{IsDrillRun}
use Rattle.desk_drill.specs.declared.drill.Drill.{Drill}
use Rattle.desk_program.specs.Worlds.{World, streams_of}

module _ {D C : Type 0} (before after : World D C) where
  -- the disk is as it was
  abbrev pub SameDisk : Type 0
  SameDisk = after.disk ≡ before.disk

  -- the clock was not asked
  abbrev pub SameClock : Type 0
  SameClock = after.clock ≡ before.clock

  -- nothing was read
  abbrev pub IsUnread : Type 0
  IsUnread = opening.IsUnread before.input after.input

  -- the words are no command, and that alone is told
  abbrev pub IsNoCommand : ℕ → Type 0
  IsNoCommand status = IsUsage (streams_of before) (streams_of after) status

  -- the summary of a drill was written
  abbrev pub Drills : Drill → ℕ → Type 0
  Drills drill status =
      IsDrillRun drill.number drill.count before.output after.output status

-- over a disk
module _ {D C : Type 0} (d : Disks D) (before after : World D C) where
  -- no office was opened, and the reason alone is told
  abbrev pub IsUnopened : ℕ → Type 0
  IsUnopened status =
      opening.IsUnopenedRun d before.disk after.disk before.output after.output status

  -- `init`: a journal was made of the settings that were read, or not
  abbrev pub Makes : ℕ → Type 0
  Makes status =
      IsInitRun d before.disk after.disk (streams_of before) (streams_of after) status

  -- `script`: the lines of an input of at most this many bytes were answered
  abbrev pub Answers : Clocks C → ℕ → ℕ → Type 0
  Answers k limit status =
      IsScriptRun d k before.disk after.disk before.clock after.clock limit
      (streams_of before) (streams_of after) status

  -- `export`: the texts of the products were written
  abbrev pub Exports : ℕ → Type 0
  Exports status =
      IsExportRun d before.disk after.disk before.output after.output status

  -- `upgrade`: the journal has the mark
  abbrev pub Upgrades : ℕ → Type 0
  Upgrades status =
      IsUpgradeRun d before.disk after.disk before.output after.output status

  -- `board`: the board at a minute was written
  abbrev pub Boards : Clocks C → Option ℕ → ℕ → Type 0
  Boards k minute status =
      IsBoardRun d k minute before.disk after.disk before.clock after.clock
      before.output after.output status
