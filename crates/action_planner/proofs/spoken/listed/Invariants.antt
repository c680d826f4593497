use Rattle.std.proofs.Common.{◌≡◌, map}
use Rattle.action_planner.proofs.spoken.listed.Given as goal

abbrev pub invariant-loop-zone : goal.invariant-loop-zone
invariant-loop-zone l = l.list ≡ map (λ z. z.now) l.yielded
