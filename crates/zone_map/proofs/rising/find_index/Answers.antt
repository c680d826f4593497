use Rattle.std.proofs.Common.{rules}
use Rattle.std.proofs.lemmas.List.Sorted.{answers_always}
use Rattle.zone_map.proofs.Searched.{searched, missed}
use Rattle.zone_map.proofs.rising.find_index.Goals as goal

pub returns-in-Ok : goal.returns-in-Ok
returns-in-Ok g c =
    let position = c.in-Ok.ensures.position (λ e. e.0) (answers_always _ _ _ (λ f a r h called. search rules)) in
    searched c.args.zone.now c.args.list.now c.in-Ok.place c.in-Ok.ensures.bound position

pub returns-in-Err : goal.returns-in-Err
returns-in-Err g c =
    let position = c.in-Err.ensures.position (λ e. e.0) (answers_always _ _ _ (λ f a r h called. search rules)) in
    missed c.args.zone.now c.args.list.now c.in-Err.field-0 c.requires position
