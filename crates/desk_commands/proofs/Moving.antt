-- What is told of values that are the same.
use Rattle.std.proofs.Common.{ℕ, ℤ, ◌≡◌, subst}
use Rattle.byte_streams.specs.Flows.{Outflow}
use Rattle.office_core.specs.State.{State}
use Rattle.desk_commands.specs.Commands.{WritesBoard}

pub told_at : (s : State) (reading at : ℤ) (before after : Outflow) (status : ℕ) → reading ≡ at → WritesBoard s reading before after status → WritesBoard s at before after status
told_at s reading at before after status same told = subst (λ (z : ℤ). WritesBoard s z before after status) same told
