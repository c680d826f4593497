-- The laws of a link that tells nothing of its bytes.
use Rattle.std.proofs.Common.{◌≡◌, ℕ, None, refl, ap, ◌∙◌}
use Rattle.byte_streams.specs.Flows.{Inflow, Outflow, inflow, outflow}
use Rattle.desk_links.specs.Links.{DoorState, KeepsInput, KeepsOutput, LinkState, PortState}

-- what it shows as a source and as a sink: how many of its reads and how many of its writes have failed
abbrev pub untold_input : ℕ → Inflow
untold_input reads = inflow None reads

abbrev pub untold_output : ℕ → Outflow
untold_output writes = outflow None writes

-- what it shows
abbrev pub untold : ℕ → ℕ → LinkState
untold reads writes = record { came = None; input = untold_input reads; output = untold_output writes }

-- a door over such links, and a port
abbrev pub untold_door : ℕ → ℕ → ℕ → DoorState
untold_door given returned faults = record { given = given; returned = returned; links = None; faults = faults }

abbrev pub untold_port : ℕ → ℕ → PortState
untold_port returned faults = record { returned = returned; links = None; numbers = None; faults = faults }

pub count_same : (n : ℕ) → n ≡ n
count_same n = refl

pub count_kept : (old mid new : ℕ) → mid ≡ old → new ≡ mid → new ≡ old
count_kept old mid new first second = second ∙ first

pub keeps_output : (reads reads' writes writes' : ℕ) → writes' ≡ writes → KeepsOutput (untold reads writes) (untold reads' writes')
keeps_output reads reads' writes writes' kept = (ap (outflow None) kept, refl)

pub keeps_input : (reads reads' writes writes' : ℕ) → reads' ≡ reads → KeepsInput (untold reads writes) (untold reads' writes')
keeps_input reads reads' writes writes' kept = (ap (inflow None) kept, refl)
