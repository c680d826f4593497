use Rattle.std.proofs.Common.{◌≡◌, ◌∙◌, ◌-◌, ◌+◌, ◌++◌, suc, List, All, sym, ap, arith, subst}
use Rattle.desk_links.specs.LinkMemory.{DoorInMemory, PortInMemory, IsIdle, dealt}
use Rattle.desk_links.proofs.Dealing.{dealt_on, dealt_end, dealt_idle, all_rest}
use Rattle.desk_links.proofs.port_memory.MemPortPort.listen.Goals as goal

pub loop-preserved : goal.loop-preserved
loop-preserved c =
    let more = c.push_reserved.ensures.items in
    let fewer : c.args.doors - c.loop.counter ≡ suc (c.args.doors - (c.loop.counter + 1)) = omega (arith, c.loop-test.true) in
    record {
      count = omega (arith, c.push_reserved.ensures.len, c.loop.invariant.count);
      within = omega (arith, c.loop-test.true);
      room = omega (arith, c.push_reserved.ensures.capacity, c.loop.invariant.room);
      dealt = ap (λ (l : List DoorInMemory). l ++ dealt (c.args.doors - (c.loop.counter + 1)) c.next_door.new.doors.items) more
          ∙ dealt_on c.loop.list.items (c.args.doors - c.loop.counter) (c.args.doors - (c.loop.counter + 1)) (dealt c.args.doors c.args.self.now.doors) c.loop.self-inside.doors.items c.next_door.new.doors.items c.in_ok-door.door fewer c.in_ok-door.ensures.first c.in_ok-door.ensures.others c.loop.invariant.dealt;
      idle = subst (λ (l : List DoorInMemory). All IsIdle l) (sym c.in_ok-door.ensures.others) (all_rest IsIdle c.loop.self-inside.doors.items c.loop.invariant.idle);
      back = c.loop.invariant.back;
      faults = c.loop.invariant.faults;
      numbers = c.loop.invariant.numbers;
      spare = c.loop.invariant.spare;
    }

pub returns-clause-unused : goal.returns-clause-unused
returns-clause-unused c =
    let none : c.args.doors - c.loop.counter ≡ 0 = omega (arith, c.loop-test.false) in
    let all = dealt_end c.loop.list.items (c.args.doors - c.loop.counter) c.loop.self-inside.doors.items (dealt c.args.doors c.args.self.now.doors) none c.loop.invariant.dealt in
    let doors : c.args.self.now.doors ≡ c.self.inside.doors.items = sym (ap (λ (p : PortInMemory). p.doors) c.self.view_is) in
    subst (λ (l : List DoorInMemory). All IsIdle l) (sym (c.from_vec.ensures ∙ all ∙ ap (dealt c.args.doors) doors)) (dealt_idle c.args.doors c.self.inside.doors.items c.self.invariant.1)
