-- One zone more.
use Rattle.std.proofs.Common.{Some, rules, subst, ℕ}
use Rattle.row_index.specs.Reaching.{AreaTold}
use Rattle.row_index.proofs.Reached.{telling-begun, telling-next}
use Rattle.row_index.proofs.reach.events_above.Goals as goal

pub loop-zone-init : goal.loop-zone-init
loop-zone-init c = record {
  told = telling-begun c.args.reaches.now.keys c.args.zones.now.keys c.args.t c.args.ranks.now c.into_iter-zone-iterator.result c.new-events.result.keys (search rules);
  last = tt;
}

pub loop-zone-preserved : goal.loop-zone-preserved
loop-zone-preserved c =
    let events = c.add_other.new.events.keys in
    let area = subst (λ (a : ℕ). AreaTold c.args.reaches.now.keys c.args.t c.args.ranks.now events (Some a)) c.area_of-area.ensures c.in_ok-add_other.ensures.told in
    record {
      told = telling-next c.args.reaches.now.keys c.args.zones.now.keys c.args.t c.args.ranks.now c.loop-zone.zone-iterator c.next.new.self c.in-Some.zone.now c.loop-zone.events.keys events
          c.in-Some.ensures.steps c.in_ok-add_other.ensures.keeps area c.loop-zone.invariant.told;
      last = c.in_ok-add_other.ensures.told;
    }
