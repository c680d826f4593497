-- One zone more.
use Rattle.std.proofs.Common.{◌∙◌, sym}
use Rattle.row_index.proofs.Reached.{idle-reached, reached-next}
use Rattle.row_index.proofs.reach.reach_each.Goals as goal

pub loop-zone-preserved : goal.loop-zone-preserved
loop-zone-preserved c = record {
  last = c.in_ok-reach_zone.ensures.last;
  grows = λ r h. c.in_ok-reach_zone.ensures.grows r (c.loop-zone.invariant.grows r h);
  reached = reached-next c.args.event.now c.args.life.now c.args.zones.now c.loop-zone.zone-index c.zone-item.result c.loop-zone.reaches.keys c.reach_zone.new.reaches.keys c.loop-zone-test.true c.zone-item.is
      c.in_ok-reach_zone.ensures.grows c.in_ok-reach_zone.ensures.reached c.loop-zone.invariant.reached;
}

pub returns-then-is_idle-clause-reached : goal.returns-then-is_idle-clause-reached
returns-then-is_idle-clause-reached c = idle-reached c.args.event.now c.args.life.now c.args.reaches.now.keys c.args.zones.now (sym c.is_idle.ensures ∙ c.if-is_idle.true)
