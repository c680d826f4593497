-- One row of the event more.
use Rattle.std.proofs.Common.{◌∙◌, ◌+◌, List, Option, ap, drop, refl, subst}
use Rattle.std.specs.Map.{values_of}
use Rattle.hazard_types.specs.declared.line.Row.{Row}
use Rattle.row_index.specs.Gathering.{has_zone, with_row}
use Rattle.row_index.proofs.Gathering.{IsOnTheWay, cut_at, drop_all, is_both, way-among, way-done}
use Rattle.row_index.proofs.live.add_among.Goals as goal

pub loop-own-preserved : goal.loop-own-preserved
loop-own-preserved c =
    let t = c.args.t in
    let e = c.args.event.now in
    let zones = c.args.zones.now.keys in
    let all = c.args.all.now in
    let part = c.args.rows.now in
    let i = c.loop-own.own-index in
    let own = c.own-item.result in
    let old = values_of c.args.higher.now.entries in
    let now = values_of c.loop-own.higher.entries in
    let next = values_of c.add_row.new.higher.entries in
    let next_is = c.in_ok-add_row.ensures.rows ∙ ap (λ (o : Option Row). with_row t o now) c.row_among-row.ensures in
    let way = subst (λ (rest : List Row). IsOnTheWay t e (is_both zones rest) (is_both zones all) part old now) (cut_at all i own c.loop-own-test.true c.own-item.is) c.loop-own.invariant.way in
    record {
      way = way-among t e zones (drop (i + 1) all) all part old now next own (has_zone zones own.zone) refl next_is way;
      seated = c.in_ok-add_row.ensures.seated;
    }

pub returns-clause-rows : goal.returns-clause-rows
returns-clause-rows c =
    way-done c.args.t c.args.event.now c.args.zones.now.keys (drop c.loop-own.own-index c.args.all.now) c.args.all.now c.args.rows.now (values_of c.args.higher.now.entries) (values_of c.loop-own.higher.entries)
    (drop_all c.args.all.now c.loop-own.own-index c.loop-own-test.false) c.requires.all c.loop-own.invariant.way
