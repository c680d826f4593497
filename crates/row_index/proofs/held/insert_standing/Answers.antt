-- The rows have come to the life, and are counted.
use Rattle.std.proofs.Common.{◌∙◌, List, length, ap}
use Rattle.row_index.specs.declared.standing.Before.{Before}
use Rattle.row_index.specs.Standings.{restood}
use Rattle.std.proofs.lemmas.Result.{on_ok_weaker}
use Rattle.row_index.proofs.Coming.{run-made}
use Rattle.row_index.proofs.held.insert_standing.Goals as goal

pub returns : goal.returns
returns c =
    on_ok_weaker c.replace_counted.result
    (λ is. run-made c.args.event.now c.args.life.now c.args.zones.now c.args.rows.now c.set.new.self c.args.standing.now.entries c.replace_counted.new.standings.entries c.in_ok-befores.befores.items
    c.in_ok-befores.ensures.set c.in_ok-befores.ensures.before
    (is ∙ ap (λ (bs : List Before). restood bs (length c.args.zones.now) c.args.life.now c.args.standing.now.entries) c.deref.ensures.value)
    c.requires.own c.requires.rows)
    c.replace_counted.ensures
