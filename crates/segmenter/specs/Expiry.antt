-- The minute at which a segment's text expires.
use Rattle.std.specs.Prelude.{◌≡◌, ◌||◌, ◌<◌, ⊤, ℕ, ◌+◌, Bool, true, false, List, fold, min, if◌then◌else◌}
use Rattle.std.specs.List.{All, list_any}
pub use Rattle.hazard_types.specs.Actions.{leaves_live}
use Rattle.hazard_types.specs.declared.codes.Action.{Action}
use Rattle.hazard_types.specs.declared.codes.Action.TheVariants.{Rou}
use Rattle.hazard_types.specs.declared.line.SegLine.{SegLine}
use Rattle.hazard_types.specs.declared.period.End.{End}
use Rattle.hazard_types.specs.declared.period.End.TheVariants.{At, Ufn}

-- the earlier_end of a minute and a closed end
abbrev pub earlier_end : ℕ → End → ℕ
earlier_end m (At end) = min m end
earlier_end m Ufn = m

-- the end of a row that the line leaves live counts
abbrev pub earlier_live_end : ℕ → SegLine → ℕ
earlier_live_end m line = if leaves_live line.action then earlier_end m line.end else m

-- ROU
abbrev pub is_routine : Action → Bool
is_routine Rou = true
is_routine _ = false

-- a row is left live, or the line is a routine one
abbrev pub has_long_expiry : SegLine → Bool
has_long_expiry line = leaves_live line.action || is_routine line.action

-- the least of eight hours on and the closed ends of the rows that are left live; one hour on, where none is left live and no line is a routine one
abbrev pub expiry_of : ℕ → List SegLine → ℕ
expiry_of t lines = if list_any has_long_expiry lines then fold earlier_live_end (t + 480) lines else t + 60

abbrev pub IsAfter : ℕ → End → Type 0
IsAfter t (At end) = t < end
IsAfter t Ufn = ⊤

-- each row that is left live ends after the minute
abbrev pub EndAfter : ℕ → List SegLine → Type 0
EndAfter t lines = All (λ (line : SegLine). leaves_live line.action ≡ true → IsAfter t line.end) lines
