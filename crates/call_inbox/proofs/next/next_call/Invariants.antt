use Rattle.std.proofs.Common.{◌≡◌, ◌≤◌, ◌-◌, length, take}
use Rattle.call_inbox.specs.Reading.{HasRead}
use Rattle.call_inbox.specs.Watching.{Waits}
use Rattle.call_inbox.proofs.next.next_call.Given as goal

-- what was read so far stands in the inbox, and nothing else has changed
abbrev pub invariant-loop-next : goal.invariant-loop-next
invariant-loop-next g l =
    let state = g.L.Link.state in
    record {
      read : HasRead l.fn.inbox l.inbox (state l.fn.link) (state l.link);
      seen : l.watch.seen ≤ length l.inbox;
      waits : Waits l.watch.from l.watch.by_line (take l.watch.seen l.inbox);
      steady : (state l.link).input.faults ≡ (state l.fn.link).input.faults;
    }

abbrev pub decreases-loop-next : goal.decreases-loop-next
decreases-loop-next g l = 73728 - length l.inbox
