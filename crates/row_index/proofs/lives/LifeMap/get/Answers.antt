-- A zone names a life that is there, and it is the zone's.
use Rattle.std.proofs.Common.{◌∙◌, ◌<◌, List, Some, length, rules, ap}
use Rattle.std.specs.BTreeMap.{is_at}
use Rattle.std.specs.Map.{lookup}
use Rattle.hazard_types.specs.Places.{Place, by_place}
use Rattle.event_life.specs.declared.life.Life.{Life}
use Rattle.row_index.proofs.SharedRows.{there-found, life-found, none-found}
use Rattle.row_index.proofs.lives.LifeMap.get.Goals as goal

pub index-requires : goal.index-requires
index-requires c =
    let within : c.in-Some.place < length c.self.inside.lives.items =
    there-found c.self.inside.lives.items c.self.inside.seats c.args.zone.now (Some c.in-Some.place) c.self.invariant c.in-Some.ensures.value in
    search (rules, within)

pub returns-in-Some : goal.returns-in-Some
returns-in-Some c =
    life-found c.self.inside.lives.items c.self.inside.seats c.args.zone.now c.in-Some.place c.index.result.now c.self.invariant c.in-Some.ensures.value c.index.ensures
    ∙ ap (λ (es : List (Place × Life)). lookup (is_at (by_place c.args.zone.now)) es) c.self.view_is

pub returns-in-None : goal.returns-in-None
returns-in-None c =
    none-found c.self.inside.lives.items c.self.inside.seats c.args.zone.now c.in-None.ensures.value
    ∙ ap (λ (es : List (Place × Life)). lookup (is_at (by_place c.args.zone.now)) es) c.self.view_is
