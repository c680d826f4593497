-- the desks so far, and those that are left, are all
use Rattle.std.proofs.Common.{◌≡◌, ◌++◌, map, drop}
use Rattle.office_core.specs.State.{no_requests}
use Rattle.office_core.proofs.office.no_requests.Given as goal

abbrev pub invariant-loop-desk : goal.invariant-loop-desk
invariant-loop-desk l = l.heard ++ map no_requests (drop l.desk-index l.desks) ≡ map no_requests l.desks
