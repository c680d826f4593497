-- The life is that of the zone's row, where the rows are of the event.
use Rattle.std.proofs.Common.{◌∙◌, List, ap, rules}
use Rattle.std.specs.Prelude.{option_map}
use Rattle.std.specs.Map.{values_of}
use Rattle.hazard_types.specs.Places.{Place}
use Rattle.hazard_types.specs.declared.line.Row.{Row}
use Rattle.event_life.specs.Products.{life_of, row_at}
use Rattle.row_index.proofs.SharedRows.{own-life, other-life}
use Rattle.row_index.proofs.shared.SharedRows.life_at.Goals as goal

pub returns-then-eq : goal.returns-then-eq
returns-then-eq c =
    c.get.ensures
    ∙ own-life c.self.inside.event c.in-Some.own c.args.event.now c.args.zone.now c.self.inside.lives c.in-Some.is (search rules)
    ∙ ap (λ (es : List (Place × Row)). option_map life_of (row_at (values_of es) c.args.event.now c.args.zone.now)) c.self.view_is

pub returns-else-eq : goal.returns-else-eq
returns-else-eq c =
    other-life c.self.inside.event c.in-Some.own c.args.event.now c.args.zone.now c.self.inside.lives c.in-Some.is (search rules)
    ∙ ap (λ (es : List (Place × Row)). option_map life_of (row_at (values_of es) c.args.event.now c.args.zone.now)) c.self.view_is
