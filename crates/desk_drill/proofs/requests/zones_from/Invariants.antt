use Rattle.std.proofs.Common.{◌≡◌}
use Rattle.desk_drill.specs.Requests.{zones_from}
use Rattle.desk_drill.proofs.requests.zones_from.Given as goal

abbrev pub invariant-loop-place : goal.invariant-loop-place
invariant-loop-place l = l.zones ≡ zones_from l.fn.i l.place
