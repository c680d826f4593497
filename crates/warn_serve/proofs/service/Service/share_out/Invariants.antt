use Rattle.std.proofs.Common.{◌≡◌, ◌≤◌, ◌+◌, [], All, length, map}
use Rattle.desk_links.specs.Links.{IsUnused}
use Rattle.warn_serve.specs.Gathered.{IsFresh, KeepsWhole, TakesBack}
use Rattle.warn_serve.proofs.EvenShares.{IsSharing}
use Rattle.warn_serve.proofs.service.Service.share_out.Given as goal

abbrev pub invariant-loop-door : goal.invariant-loop-door
invariant-loop-door g l =
    let door = g.P.Door.Door in
    let port = g.P.Port.state in
    record {
      can : (goal.iterator-loop-door g).can_next l.door-iterator;
      ends : (goal.iterator-loop-door g).is_finite l.door-iterator;
      kept : KeepsWhole l.initial.pass l.pass;
      shares : l.pass.shares + length l.workers.items ≡ l.initial.pass.shares;
      room : length l.workers.items + length l.door-iterator.rest.items ≤ length l.fn.doors.items;
      unused : All (λ d. IsUnused (door.state d)) l.door-iterator.rest.items;
      fresh : All (λ w. IsFresh l.initial.pass w.pass (door.state w.door) w.share l.fn.connections) l.workers.items;
      sharing : IsSharing (map (λ w. w.share) l.workers.items) l.lost (length l.door-iterator.rest.items) l.whole l.more (length l.fn.doors.items) l.fn.connections;
      back : TakesBack (port l.initial.port) (port l.port) [];
      steady : (port l.port).faults ≤ (port l.initial.port).faults;
      numbers : (g.P.Port.state l.port).numbers ≡ (g.P.Port.state l.initial.port).numbers;
    }
