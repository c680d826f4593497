use Rattle.zone_map.proofs.Seated.{found}
use Rattle.zone_map.proofs.rising.value_near.Goals as goal

pub returns-in-Some : goal.returns-in-Some
returns-in-Some g c = found c.args.zone.now c.args.list.now c.in-Some.place c.index-list-place.result c.requires c.in-Some.ensures
