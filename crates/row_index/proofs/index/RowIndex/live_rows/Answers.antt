-- One event more.
use Rattle.std.proofs.Common.{List, ap, rules, subst, sym}
use Rattle.std.specs.Map.{values_of}
use Rattle.hazard_types.specs.declared.hazard.Event.{Event}
use Rattle.row_index.specs.Seating.{AreSeated}
use Rattle.row_index.proofs.Gathering.{AreOnTheWay, events-begun, events-next}
use Rattle.row_index.proofs.index.RowIndex.live_rows.Goals as goal

pub loop-event-init : goal.loop-event-init
loop-event-init c = record {
  way = events-begun c.args.self.now c.args.t c.args.zones.now.keys c.into_iter-event-iterator.result c.args.events.now.keys (values_of c.new-higher.result.entries) (search rules) (ap values_of c.new-higher.ensures.empty);
  seated = subst AreSeated (sym c.new-higher.ensures.empty) tt;
}

pub loop-event-preserved : goal.loop-event-preserved
loop-event-preserved c =
    let rows = c.args.self.now in
    let now = values_of c.loop-event.higher.entries in
    record {
      way = events-next rows c.args.t c.args.zones.now.keys c.next.new.self c.args.events.now.keys c.in-Some.event.now c.rows_of-rows.result now (values_of c.add_rows.new.higher.entries) c.rows_of-rows.ensures c.in_ok-add_rows.ensures.rows
          (subst (λ (es : List Event). AreOnTheWay rows c.args.t c.args.zones.now.keys es c.args.events.now.keys now) c.in-Some.ensures.steps c.loop-event.invariant.way);
      seated = c.in_ok-add_rows.ensures.seated;
    }
