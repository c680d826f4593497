-- What a run of the program reads, answers and tells, with `serve` among its commands.
use Rattle.std.specs.Prelude.{◌≡◌, ◌⊎◌, ℕ, List, MatchOption, IsSome}
use Rattle.desk_traits.specs.Faults.{Rose}
use Rattle.desk_traits.specs.declared.clocks.Clock.{Ghosts as Clocks}
use Rattle.desk_traits.specs.declared.disk.Disk.{Ghosts as Disks}
use Rattle.desk_program.specs.Commands.{IsUnread, SameClock}
use Rattle.desk_program.specs.Runs.{IsEndOfItsOwn}
use Rattle.desk_program.specs.Runs as alone
use Rattle.desk_program.specs.Words.{command_of}
use Rattle.serve_command.specs.Serving.{Serves}
use Rattle.serve_command.specs.Words.{parse_serve_args}
use Rattle.serve_command.specs.declared.words.Serving.{Serving}
use Rattle.warn_main.specs.Worlds.{World, without_port}

module _ {D C : Type 0} (before after : World D C) where
  -- the port is as it was
  abbrev pub SamePort : Type 0
  SamePort = after.port ≡ before.port

module _ {D C : Type 0} (d : Disks D) (k : Clocks C) where
  -- `serve` was done: it reads nothing of the input and leaves the clock as it is
  abbrev pub DoesServe : World D C → World D C → ℕ → Serving → Type 0
  DoesServe before after status serving =
      IsUnread (without_port before) (without_port after)
      × SameClock (without_port before) (without_port after)
      × Serves d (k.gives before.clock) serving before.disk after.disk before.port after.port
      before.output after.output status

  -- The words were done, with an input of at most so many bytes, or are no command.
  pub record DoesAsAsked (words : List (List ℕ)) (limit : ℕ) (before after : World D C) (status : ℕ) : Type 0 where
    -- each other command than `serve` leaves the port as it is
    pub run : MatchOption (parse_serve_args words)
        (alone.DoesAsAsked d k words limit (without_port before) (without_port after) status
        × SamePort before after)
        (DoesServe before after status)
    -- A fault is told only where a count rose.
    pub read_fault : status ≡ 7 → Rose before.input.faults after.input.faults
    pub write_fault : status ≡ 8 → Rose before.output.faults after.output.faults
    pub disk_fault : status ≡ 9 → Rose (d.faults before.disk) (d.faults after.disk)
    pub port_fault : status ≡ 10 → Rose before.port.faults after.port.faults
    -- Where no count rose, a command ends well, by what it found, or for want of memory.
    pub complete : IsSome (command_of words) ⊎ IsSome (parse_serve_args words)
        → ¬ Rose before.input.faults after.input.faults
        → ¬ Rose before.output.faults after.output.faults
        → ¬ Rose (d.faults before.disk) (d.faults after.disk)
        → ¬ Rose before.port.faults after.port.faults
        → IsEndOfItsOwn status
