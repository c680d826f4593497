use Rattle.std.proofs.Common.{ap, arith, subst, All, List, length}
use Rattle.desk_links.specs.LinkMemory.{DoorInMemory, IsIdle}
use Rattle.worked_office.proofs.Untouched.{rest_of}
use Rattle.worked_office.proofs.outside.ports.visit_doors.Goals as goal

pub loop-door-preserved : goal.loop-door-preserved
loop-door-preserved c =
    let step = c.in-Some.ensures.steps.0 in
    record {
      can = tt;
      ends = tt;
      idle = rest_of IsIdle c.in-Some.door c.next.new.self.rest.items (subst (λ (l : List DoorInMemory). All IsIdle l) step c.loop-door.invariant.idle);
      few = omega (arith, c.loop-door.invariant.few, ap length step, c.return_door.ensures.returned, c.in_ok-visit_all.ensures.few);
    }
