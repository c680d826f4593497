use Rattle.std.proofs.Common.{rules}
use Rattle.zone_map.proofs.Seated.{found, put, put-sorted, inserted, none_there, sorted_put}
use Rattle.zone_map.proofs.rising.set_at.Goals as goal

pub returns-then-is_entry_at-clause-set : goal.returns-then-is_entry_at-clause-set
returns-then-is_entry_at-clause-set g c = put c.args.zone.now c.args.value c.args.list.now.items c.args.seat c.requires.sorted (search rules)

pub returns-then-is_entry_at-clause-before : goal.returns-then-is_entry_at-clause-before
returns-then-is_entry_at-clause-before g c = rw c.index.ensures (found c.args.zone.now c.args.list.now.items c.args.seat c.index.result.now c.requires.sorted (search rules))

pub returns-then-is_entry_at-clause-sorted : goal.returns-then-is_entry_at-clause-sorted
returns-then-is_entry_at-clause-sorted g c = put-sorted c.args.zone.now c.args.value c.args.list.now.items c.args.seat c.requires.sorted (search rules)

pub returns-clause-set : goal.returns-clause-set
returns-clause-set g c = rw c.in_ok-insert.ensures.items (inserted c.args.zone.now c.args.value c.args.list.now.items c.args.seat c.requires.seat (search rules))

pub returns-clause-before : goal.returns-clause-before
returns-clause-before g c = none_there c.args.zone.now c.args.list.now.items c.args.seat c.requires.sorted c.requires.seat (search rules)

pub returns-clause-sorted : goal.returns-clause-sorted
returns-clause-sorted g c =
    let es = c.args.list.now.items in
    rw (c.in_ok-insert.ensures.items, inserted c.args.zone.now c.args.value es c.args.seat c.requires.seat (search rules)) (sorted_put c.args.zone.now c.args.value es c.requires.sorted)
