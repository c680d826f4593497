-- One entry more.
use Rattle.std.proofs.Common.{◌∙◌, ◌+◌, List, Option, ap}
use Rattle.event_life.specs.declared.life.Life.{Life}
use Rattle.row_index.specs.declared.standing.Before.{Before}
use Rattle.row_index.specs.Tallies.{one_of, owed, times}
use Rattle.row_index.proofs.Tallied.{owed-behind}
use Rattle.row_index.proofs.lives.add_before.Goals as goal

pub returns : goal.returns
returns c = λ p.
    ap (λ (bs : List Before). owed p bs) c.in_ok-push.ensures.items
    ∙ owed-behind p c.args.befores.now.items (record { life = c.life_there-life.result; zones = c.args.zones })
    ∙ ap (λ (o : Option Life). owed p c.args.befores.now.items + times c.args.zones (one_of p o)) c.life_there-life.ensures
