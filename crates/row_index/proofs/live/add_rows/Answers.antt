-- One zone more.
use Rattle.std.proofs.Common.{◌∙◌, List, Option, ap}
use Rattle.std.specs.Map.{values_of}
use Rattle.hazard_types.specs.Places.{Place}
use Rattle.hazard_types.specs.declared.line.Row.{Row}
use Rattle.row_index.specs.Gathering.{has_zone, with_row}
use Rattle.row_index.proofs.Gathering.{way-next}
use Rattle.row_index.proofs.live.add_rows.Goals as goal

pub loop-zone-preserved : goal.loop-zone-preserved
loop-zone-preserved c =
    let now = values_of c.loop-zone.higher.entries in
    let next = values_of c.add_row.new.higher.entries in
    let next_is = c.in_ok-add_row.ensures.rows ∙ ap (λ (o : Option Row). with_row c.args.t o now) c.row_at-row.ensures in
    record {
      way = way-next c.args.t c.args.event.now c.args.rows.now c.in-Some.zone.now now next next_is (has_zone c.next.new.self) (has_zone c.loop-zone.zone-iterator) (has_zone c.args.zones.now.keys) (values_of c.args.higher.now.entries)
          (λ z. ap (λ (zones : List Place). has_zone zones z) c.in-Some.ensures.steps) c.loop-zone.invariant.way;
      seated = c.in_ok-add_row.ensures.seated;
    }
