-- The outside of a run of the program, at one moment, with its port.
use Rattle.byte_streams.specs.Flows.{Inflow, Outflow}
use Rattle.desk_links.specs.Links.{PortState}
use Rattle.desk_program.specs.Worlds as alone

-- All that a run may touch: what its input, its output and its port show, and its disk and its clock
-- themselves.
pub record World (D C : Type 0) : Type 0 where
  pub input : Inflow
  pub output : Outflow
  pub disk : D
  pub clock : C
  pub port : PortState

-- the same, by its parts
abbrev pub world : {D C : Type 0} → Inflow → Outflow → D → C → PortState → World D C
world input output disk clock port =
    record { input = input; output = output; disk = disk; clock = clock; port = port }

-- all but the port
abbrev pub without_port : {D C : Type 0} → World D C → alone.World D C
without_port w = alone.world w.input w.output w.disk w.clock
