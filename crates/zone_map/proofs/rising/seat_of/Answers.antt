use Rattle.std.proofs.Common.{rules}
use Rattle.std.proofs.lemmas.List.Sorted.{answers_always}
use Rattle.zone_map.proofs.Searched.{searched, seat_missed}
use Rattle.zone_map.proofs.Seated.{behind_all, seat_last, seat_there, seat_within}
use Rattle.zone_map.proofs.rising.seat_of.Goals as goal

pub returns-then-is_entry_at-clause-seat : goal.returns-then-is_entry_at-clause-seat
returns-then-is_entry_at-clause-seat g c = seat_there c.args.zone.now c.args.list.now c.args.near c.requires (search rules)

pub returns-then-is_entry_at-clause-within : goal.returns-then-is_entry_at-clause-within
returns-then-is_entry_at-clause-within g c = seat_within c.args.zone.now c.args.list.now c.args.near (seat_there c.args.zone.now c.args.list.now c.args.near c.requires (search rules))

pub returns-then-comes_after_all-clause-seat : goal.returns-then-comes_after_all-clause-seat
returns-then-comes_after_all-clause-seat g c = seat_last c.args.zone.now c.args.list.now (behind_all c.args.zone.now c.args.list.now c.requires (search rules))

pub returns-in-Ok-clause-seat : goal.returns-in-Ok-clause-seat
returns-in-Ok-clause-seat g c =
    let position = c.in-Ok.ensures.position (λ e. e.0) (answers_always _ _ _ (λ f a r h called. search rules)) in
    seat_there c.args.zone.now c.args.list.now c.in-Ok.place c.requires (searched c.args.zone.now c.args.list.now c.in-Ok.place c.in-Ok.ensures.bound position)

pub returns-in-Err-clause-seat : goal.returns-in-Err-clause-seat
returns-in-Err-clause-seat g c =
    let position = c.in-Err.ensures.position (λ e. e.0) (answers_always _ _ _ (λ f a r h called. search rules)) in
    seat_missed c.args.zone.now c.args.list.now c.in-Err.place c.requires c.in-Err.ensures.bound position
