use Rattle.std.proofs.Common.{rules, ◌≡◌, ◌∙◌, ◌++◌, ◌∷◌, ◌+◌, [], List, All, length, drop, sym, ap, arith, subst}
use Rattle.desk_links.specs.LinkMemory.{LinkInMemory, DoorInMemory, IsUntouched, IsIdle, doors_with, door_with}
use Rattle.desk_links.proofs.Dealing.{made_on, made_end, all_tail, idle_doors}
use Rattle.desk_links.proofs.port_memory.MemPort.new.Goals as goal

pub loop-list-preserved : goal.loop-list-preserved
loop-list-preserved c =
    let step : c.loop-list.list-iterator.rest.items ≡ c.in-Some.list ∷ c.next.new.self.rest.items = c.in-Some.ensures.steps.0 in
    let made : c.push_back.new.self.items ≡ c.loop-list.doors.items ++ door_with c.in-Some.list c.in_ok-told.told ∷ [] = search rules in
    record {
      can = tt;
      ends = tt;
      place = omega (arith, ap length step, c.loop-list.invariant.place);
      doors = ap (λ (l : List DoorInMemory). l ++ doors_with c.next.new.self.rest.items (drop (c.loop-list.place + 1) c.args.failing.now)) made
          ∙ made_on c.loop-list.doors.items c.in-Some.list c.next.new.self.rest.items c.args.failing.now c.loop-list.place (doors_with c.args.links c.args.failing.now) c.in_ok-told.told c.in_ok-told.ensures
          (subst (λ (l : List (List LinkInMemory)). c.loop-list.doors.items ++ doors_with l (drop c.loop-list.place c.args.failing.now) ≡ doors_with c.args.links c.args.failing.now) step c.loop-list.invariant.doors);
      untouched = all_tail (λ (l : List LinkInMemory). All IsUntouched l) c.in-Some.list c.next.new.self.rest.items (subst (λ (l : List (List LinkInMemory)). All (λ (l : List LinkInMemory). All IsUntouched l) l) step c.loop-list.invariant.untouched);
    }

pub invariant_of-result : goal.invariant_of-result
invariant_of-result c =
    let rest = c.loop-list.list-iterator.rest in
    let none : length rest.items ≡ 0 = search rules in
    let all = made_end c.loop-list.doors.items rest.items (drop c.loop-list.place c.args.failing.now) (doors_with c.args.links c.args.failing.now) none c.loop-list.invariant.doors in
    (omega (arith, ap length c.new-2.ensures), subst (λ (l : List DoorInMemory). All IsIdle l) (sym all) (idle_doors c.args.links c.args.failing.now))
