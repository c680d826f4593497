-- The office that a run opened from the journal of its disk.
use Rattle.std.proofs.Common.{inl, inr}
use Rattle.std.specs.Prelude.{◌⊎◌, ℕ, List, [], Option, None, Some, MatchOption}
use Rattle.desk_traits.specs.declared.clocks.Clock.{Ghosts as Clocks}
use Rattle.desk_traits.specs.declared.disk.Disk.{Ghosts as Disks}
use Rattle.office_core.specs.State.{State}
use Rattle.office_journal.specs.Given.{Gave}
use Rattle.office_journal.specs.Grown.{Stood}
use Rattle.office_journal.specs.Kept.{state_of}
use Rattle.office_journal.specs.declared.kept.KeptOffice.{KeptOffice}
use Rattle.office_turns.specs.Happenings as turns
use Rattle.desk_commands.specs.Commands.{mark_given}
use Rattle.desk_commands.specs.Scripts as scripts
use Rattle.desk_program.specs.Commands.{Boards, Exports, IsNoCommand, IsUnopened, SameClock, SameDisk, Upgrades}
use Rattle.desk_program.specs.Runs.{Does}
use Rattle.desk_program.specs.Runs as alone
use Rattle.desk_program.specs.Words.{command_of}
use Rattle.desk_program.specs.Worlds as alone_worlds
use Rattle.desk_program.specs.declared.words.Command.{Command}
use Rattle.desk_program.specs.declared.words.Command.TheVariants as command
use Rattle.serve_command.specs.Words.{parse_serve_args}
use Rattle.serve_command.specs.declared.words.Serving.{Serving}
use Rattle.warn_main.specs.Runs.{DoesAsAsked, DoesServe, SamePort}
use Rattle.warn_main.specs.Worlds.{World, without_port}

-- an office as it was opened, what was given to its disk since, in order, the disk as it stood at each
-- answer, and the office's state at the end
pub record Office {D : Type 0} (d : Disks D) : Type 0 where
  pub opened : KeptOffice D d
  pub given : List Gave
  pub answered : List (Stood D)
  pub state : State

module _ {D : Type 0} {d : Disks D} where
  -- nothing was given to it
  abbrev pub unchanged : KeptOffice D d → Office d
  unchanged opened = record { opened = opened; given = []; answered = []; state = state_of opened }

-- that of a command, where it opened one
module _ {D C : Type 0} (d : Disks D) (before after : alone_worlds.World D C) (status : ℕ) where
  abbrev pub office_exported : IsUnopened d before after status ⊎ Exports d before after status
      → Option (Office d)
  office_exported (inl unopened) = None
  office_exported (inr run) = Some (unchanged run.opened)

  abbrev pub office_upgraded : IsUnopened d before after status ⊎ Upgrades d before after status
      → Option (Office d)
  office_upgraded (inl unopened) = None
  office_upgraded (inr run) =
      Some (record {
        opened = run.opened;
        given = mark_given d after.disk run.opened run.after before.output after.output status run.outcome;
        answered = [];
        state = state_of run.after;
      })

  module _ (k : Clocks C) where
    abbrev pub office_shown : (minute : Option ℕ)
        → (IsUnopened d before after status × SameClock before after)
        ⊎ Boards d before after k minute status
        → Option (Office d)
    office_shown minute (inl unopened) = None
    office_shown minute (inr run) = Some (unchanged run.opened)

    module _ (limit : ℕ) where
      abbrev pub office_by : (command : Command) → Does d k limit before after status command
          → Option (Office d)
      office_by command.Init does = None
      office_by command.Script (inl unopened) = None
      office_by command.Script (inr run) =
          Some (record {
            opened = run.opened;
            given = scripts.given_by run.said;
            answered = scripts.stood_in d k [] _ run.run.run.lines run.said run.after run.goes;
            state = state_of run.after.kept;
          })
      office_by command.Export does = office_exported does.2
      office_by command.Upgrade does = office_upgraded does.2
      office_by (command.Board minute) does = office_shown minute does.1
      office_by (command.Dry dry) does = None
      office_by (command.Drill drill) does = None

      abbrev pub office_if : (asked : Option Command)
          → MatchOption asked
          (IsNoCommand before after status × SameDisk before after × SameClock before after)
          (Does d k limit before after status)
          → Option (Office d)
      office_if None does = None
      office_if (Some command) does = office_by command does

module _ {D C : Type 0} (d : Disks D) (k : Clocks C) (before after : World D C) (status : ℕ) where
  -- that of `serve`
  abbrev pub office_served : (serving : Serving) → DoesServe d k before after status serving
      → Option (Office d)
  office_served serving (unread, same, inl unopened) = None
  office_served serving (unread, same, inr run) =
      Some (record {
        opened = run.opened;
        given = turns.given_by run.served.happenings;
        answered = turns.stood_by [] run.served.happenings;
        state = state_of run.closed;
      })

  module _ (words : List (List ℕ)) (limit : ℕ) where
    abbrev pub office_in : (asked : Option Serving)
        → MatchOption asked
        (alone.DoesAsAsked d k words limit (without_port before) (without_port after) status
        × SamePort before after)
        (DoesServe d k before after status)
        → Option (Office d)
    office_in None does =
        office_if d (without_port before) (without_port after) status k limit (command_of words)
        does.0.run
    office_in (Some serving) does = office_served serving does

    -- the office that the run opened from its disk's journal, if it opened one
    abbrev pub office_of : DoesAsAsked d k words limit before after status → Option (Office d)
    office_of done = office_in (parse_serve_args words) done.run
