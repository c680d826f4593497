-- One zone more.
use Rattle.std.proofs.Common.{List, subst}
use Rattle.hazard_types.specs.declared.line.Line.{Line}
use Rattle.row_index.specs.Apart.{Spoke}
use Rattle.row_index.specs.Risen.{seats_of}
use Rattle.row_index.specs.Verdicts.{said_at}
use Rattle.row_index.proofs.Firsts.{spoke_next}
use Rattle.row_index.proofs.apart.mark_part_seen.Goals as goal

pub loop-zone-preserved : goal.loop-zone-preserved
loop-zone-preserved c =
    let old = seats_of c.args.spoken.now.rising.items c.args.spoken.now.others.keys in
    let now = seats_of c.loop-zone.spoken.rising.items c.loop-zone.spoken.others.keys in
    let next = seats_of c.mark_zone_seen.new.spoken.rising.items c.mark_zone_seen.new.spoken.others.keys in
    let zone = c.zone-item.result in
    let here = subst (λ (lines : List Line). Spoke now next (said_at lines zone)) c.as_slice.ensures (c.in_ok-first.ensures.first c.if-not-first.false) in
    record {
      first = spoke_next (said_at c.args.part.now.lines) c.args.part.now.zones.now c.loop-zone.zone-index zone old now next c.loop-zone-test.true c.zone-item.is here c.loop-zone.invariant.first;
      free = c.in_ok-first.ensures.free;
    }
