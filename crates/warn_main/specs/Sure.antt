-- What holds of a run at ends whose counts of faults stay where they are.
use Rattle.std.specs.Prelude.{◌≡◌, ◌≢◌, ℕ, ℤ, List}
use Rattle.byte_streams.specs.Flows.{Outflow}
use Rattle.desk_links.specs.Links.{PortState}
use Rattle.desk_traits.specs.declared.clocks.Clock.{Ghosts as Clocks}
use Rattle.desk_traits.specs.declared.disk.Disk.{Ghosts as Disks}
use Rattle.desk_commands.specs.Scripts.{faults_in}
use Rattle.desk_program.specs.Commands.{Answers}
use Rattle.desk_program.specs.Worlds as alone
use Rattle.office_turns.specs.Happenings as turns
use Rattle.serve_command.specs.Serving.{IsServeRun}
use Rattle.serve_command.specs.declared.words.Serving.{Serving}
use Rattle.warn_main.specs.Runs.{DoesAsAsked}
use Rattle.warn_main.specs.Worlds.{World}

module _ {D C : Type 0} (d : Disks D) (k : Clocks C) where
  -- no line of a script over the disk is answered that the disk failed
  abbrev pub SaysNoDiskFault : Type 0
  SaysNoDiskFault =
      (before after : alone.World D C) (limit status : ℕ)
      (run : Answers d before after k limit status)
      → faults_in run.said ≡ 0

module _ {D : Type 0} (d : Disks D) where
  -- no call of a link over the disk is answered that the disk failed
  abbrev pub ServesNoDiskFault : (ℤ → Type 0) → Type 0
  ServesNoDiskFault gives =
      (serving : Serving) (disk next : D) (port port' : PortState)
      (old new : Outflow) (status : ℕ)
      (run : IsServeRun d gives serving disk next port port' old new status)
      → turns.faults_in run.served.happenings ≡ 0

module _ {D C : Type 0} (d : Disks D) (k : Clocks C) where
  -- no run over the disk ends with a disk fault
  abbrev pub EndsWithoutDiskFault : Type 0
  EndsWithoutDiskFault =
      (words : List (List ℕ)) (limit : ℕ) (before after : World D C) (status : ℕ)
      → DoesAsAsked d k words limit before after status → status ≢ 9

  -- no run ends with a read fault where the input has such a count at the start and at the end
  abbrev pub EndsWithoutReadFault : ℕ → ℕ → Type 0
  EndsWithoutReadFault reads reads' =
      (words : List (List ℕ)) (limit : ℕ) (before after : World D C) (status : ℕ)
      → before.input.faults ≡ reads → after.input.faults ≡ reads'
      → DoesAsAsked d k words limit before after status → status ≢ 7

  -- no run ends with a write fault where the output has such a count at the start and at the end
  abbrev pub EndsWithoutWriteFault : ℕ → ℕ → Type 0
  EndsWithoutWriteFault writes writes' =
      (words : List (List ℕ)) (limit : ℕ) (before after : World D C) (status : ℕ)
      → before.output.faults ≡ writes → after.output.faults ≡ writes'
      → DoesAsAsked d k words limit before after status → status ≢ 8
