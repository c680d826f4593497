-- The outside of a run, at one moment.
use Rattle.byte_streams.specs.Flows.{Inflow, Outflow, Streams, streams}

-- All that a run may touch: its input, its output, its disk and its clock. The disk and the clock
-- stand here themselves, since what they tell are relations, which their traits' members read.
pub record World (D C : Type 0) : Type 0 where
  pub input : Inflow
  pub output : Outflow
  pub disk : D
  pub clock : C

-- the same, by its parts
abbrev pub world : {D C : Type 0} → Inflow → Outflow → D → C → World D C
world input output disk clock =
    record { input = input; output = output; disk = disk; clock = clock }

abbrev pub streams_of : {D C : Type 0} → World D C → Streams
streams_of w = streams w.input w.output
