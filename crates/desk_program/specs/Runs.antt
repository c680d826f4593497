-- What a run of the program reads, answers and tells.
use Rattle.std.specs.Prelude.{◌≡◌, ◌≤◌, ◌⊎◌, ℕ, List, MatchOption, IsSome}
use Rattle.byte_streams.specs.Flows.{Streams}
use Rattle.office_core.specs.Agreement.{ReadsAsTheBoard}
use Rattle.office_core.specs.State.{State}
use Rattle.desk_traits.specs.Faults.{Rose}
use Rattle.desk_traits.specs.declared.clocks.Clock.{Ghosts as Clocks}
use Rattle.desk_traits.specs.declared.disk.Disk.{Ghosts as Disks}
use Rattle.program_ends.specs.Runs.{Answered, IsLinesRun}
use Rattle.desk_program.specs.Commands.{Answers, Boards, Drills, Exports, IsNoCommand, IsUnopened, IsUnread, Makes, SameClock, SameDisk, Upgrades}
use Rattle.desk_program.specs.Training.{AnswersLine, LacksLine, first_training}
use Rattle.desk_program.specs.Words.{command_of}
use Rattle.desk_program.specs.Worlds.{World, streams_of}
use Rattle.desk_program.specs.declared.words.Command.{Command}
use Rattle.desk_program.specs.declared.words.Command.TheVariants as command
use Rattle.desk_program.specs.declared.words.Dry.{Dry}

-- A run of `dry` over the lines of an input of at most this many bytes, by the office and the minute
-- alone. Where memory lacks for the office itself, no line is read.
pub record IsDryRun (dry : Dry) (limit : ℕ) (before after : Streams) (status : ℕ) : Type 0 where
  -- the office at the end
  pub office : State
  pub run : IsLinesRun (AnswersLine dry.minute) LacksLine limit (first_training dry.office) office
      before after status
  -- No other answers to these lines are possible.
  pub only : (told : List ℕ) (last : State)
      → Answered (AnswersLine dry.minute) (first_training dry.office) run.run.lines told last
      → (told ≡ run.told) × (last ≡ run.run.last)
  -- Whoever reads the texts that the answered lines made finds lawful lives, numbers without gaps, and
  -- the office's board.
  pub read_back : ReadsAsTheBoard run.run.last

-- It went well; or settings were refused, a journal was there, was not there or is damaged, the clock
-- is out, memory lacked, the input is too long or the journal full.
abbrev pub IsEndOfItsOwn : ℕ → Type 0
IsEndOfItsOwn status =
    (status ≡ 0) ⊎ ((3 ≤ status) × (status ≤ 6)) ⊎ ((11 ≤ status) × (status ≤ 14))

-- What the words ask for was done, with an input of at most so many bytes. The clock is asked by
-- `script` and `board` alone, once a journal is opened.
module _ {D C : Type 0} (d : Disks D) (k : Clocks C) (limit : ℕ) (before after : World D C) (status : ℕ) where
  abbrev pub Does : Command → Type 0
  Does command.Init = Makes d before after status × SameClock before after
  Does command.Script =
      (IsUnread before after × IsUnopened d before after status × SameClock before after)
      ⊎ Answers d before after k limit status
  Does command.Export =
      IsUnread before after × SameClock before after
      × (IsUnopened d before after status ⊎ Exports d before after status)
  Does command.Upgrade =
      IsUnread before after × SameClock before after
      × (IsUnopened d before after status ⊎ Upgrades d before after status)
  Does (command.Board minute) =
      IsUnread before after
      × ((IsUnopened d before after status × SameClock before after) ⊎ Boards d before after k minute status)
  Does (command.Dry dry) =
      IsDryRun dry limit (streams_of before) (streams_of after) status
      × SameDisk before after × SameClock before after
  Does (command.Drill drill) =
      IsUnread before after × Drills before after drill status
      × SameDisk before after × SameClock before after

module _ {D C : Type 0} (d : Disks D) (k : Clocks C) where
  -- The words were done, with an input of at most so many bytes, or are no command.
  pub record DoesAsAsked (words : List (List ℕ)) (limit : ℕ) (before after : World D C) (status : ℕ) : Type 0 where
    -- What was read, answered and told, and what became of the disk.
    pub run : MatchOption (command_of words)
        (IsNoCommand before after status × SameDisk before after × SameClock before after)
        (Does d k limit before after status)
    -- A fault is told only where a count rose.
    pub read_fault : status ≡ 7 → Rose before.input.faults after.input.faults
    pub write_fault : status ≡ 8 → Rose before.output.faults after.output.faults
    pub disk_fault : status ≡ 9 → Rose (d.faults before.disk) (d.faults after.disk)
    -- Where no count rose, a command ends well, by what it found, or for want of memory.
    pub complete : IsSome (command_of words)
        → ¬ Rose before.input.faults after.input.faults
        → ¬ Rose before.output.faults after.output.faults
        → ¬ Rose (d.faults before.disk) (d.faults after.disk)
        → IsEndOfItsOwn status
