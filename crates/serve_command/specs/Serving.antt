-- What `serve` does: the office of a journal is served over the links of a port, and what the journal and the port are then.
use Rattle.std.specs.Prelude.{◌≡◌, ◌≤◌, ◌⊎◌, ◌++◌, ℕ, ℤ, List, [], length, Some, codes, decimal}
use Rattle.byte_streams.specs.Flows.{Outflow}
use Rattle.desk_links.specs.Links.{PortState}
use Rattle.desk_traits.specs.declared.disk.Disk.{Ghosts as Disks}
use Rattle.office_journal.specs.Kept.{disk_of, entries_of, state_of}
use Rattle.office_journal.specs.declared.kept.KeptOffice.{KeptOffice}
use Rattle.program_ends.specs.Ends.{Telling, TellsText}
use Rattle.program_ends.specs.declared.ends.End.TheVariants.{OutOfMemory, PortFault}
use Rattle.desk_commands.specs.Opening.{IsOpened, IsUnopenedRun}
use Rattle.warn_serve.specs.Served.{IsServed}
use Rattle.warn_serve.specs.declared.serving.ServeEnd.{ServeEnd}
use Rattle.warn_serve.specs.declared.serving.ServeEnd.TheVariants as serve
use Rattle.serve_command.specs.Growing.{HasGrown}
use Rattle.serve_command.specs.declared.words.Serving.{Serving}

-- the line of an office with so many requests and products
unfoldable pub summary : ℕ → ℕ → List ℕ
summary requests products = codes "requests " ++ decimal requests ++ codes " products " ++ decimal products ++ codes "\n"

-- What is told: the line of the office at the end, where all connections were served, unless memory lacks for it; or the port's fault, or want of memory.
abbrev pub WritesServed : ServeEnd → List ℕ → Outflow → Outflow → ℕ → Type 0
WritesServed serve.Done line old new status = TellsText line old new status ⊎ Telling [] old new (Some OutOfMemory) status
WritesServed serve.PortFault line old new status = Telling [] old new (Some PortFault) status
WritesServed serve.OutOfMemory line old new status = Telling [] old new (Some OutOfMemory) status

module _ {D : Type 0} (d : Disks D) (gives : ℤ → Type 0) where
  -- the office that the disk holds was opened and served
  pub record IsServeRun (serving : Serving) (disk next : D) (port port' : PortState) (old new : Outflow) (status : ℕ) : Type 0 where
    pub opened : KeptOffice D d
    pub first : IsOpened d disk opened
    -- the office when all its workers had ended
    pub closed : KeptOffice D d
    pub end : ServeEnd
    pub served : IsServed d gives opened closed serving.port serving.workers serving.connections port port' end
    pub told : WritesServed end (summary (entries_of closed) (length (state_of closed).products)) old new status
    pub handed : next ≡ disk_of closed
    -- one legal history, which holds the requests that were accepted on the links behind what was found, and the disk
    pub history : HasGrown d disk opened closed served.happenings
    pub later : d.faults disk ≤ d.faults next

  -- it was; or no office was opened, and the port is as it was
  abbrev pub Serves : Serving → D → D → PortState → PortState → Outflow → Outflow → ℕ → Type 0
  Serves serving disk next port port' old new status =
      (IsUnopenedRun d disk next old new status × (port' ≡ port)) ⊎ IsServeRun serving disk next port port' old new status
