-- What sources and sinks in memory hold and show, and which of their calls fail.
use Rattle.std.specs.Prelude.{◌≡◌, ◌⊎◌, ◌↔◌, ℕ, List, Bool, true, Some, Result, IsErr}
use Rattle.byte_streams.specs.Flows.{Inflow, Outflow, inflow, outflow}

-- a source in memory: the bytes left, the most that it gives at once, the calls that fail, how many
-- were made, how many failed
pub record SourceInMemory : Type 0 where
  pub left : List ℕ
  pub piece : ℕ
  pub failing : List ℕ
  pub calls : ℕ
  pub faults : ℕ

-- what it shows
abbrev pub inflow_of : SourceInMemory → Inflow
inflow_of s = inflow (Some s.left) s.faults

-- a sink in memory: the bytes taken, the calls that fail, how many were made, how many failed, and
-- whether memory has lacked for one
pub record SinkInMemory : Type 0 where
  pub taken : List ℕ
  pub failing : List ℕ
  pub calls : ℕ
  pub faults : ℕ
  pub lacked : Bool

-- what it shows
abbrev pub outflow_of : SinkInMemory → Outflow
outflow_of s = outflow (Some s.taken) s.faults

-- a call fails exactly where it was told to, or memory lacked for it
abbrev pub FailsWhereListed : {T E : Type 0} → Type 0 → Bool → Bool → Result T E → Type 0
FailsWhereListed told lacked lacked' result = ((lacked' ≡ lacked) × (IsErr result ↔ told)) ⊎ ((lacked' ≡ true) × IsErr result)
