-- One line more.
use Rattle.std.proofs.Common.{◌∙◌, Bool, [], ap, cond, take, rules}
use Rattle.std.specs.Map.{values_of}
use Rattle.event_life.specs.Products.{put, rows_after_all_but_upgrades}
use Rattle.row_index.specs.Risen.{seats_of}
use Rattle.row_index.specs.Seating.{speaks}
use Rattle.row_index.proofs.Asked.{counted_next}
use Rattle.row_index.proofs.Saying.{told_next}
use Rattle.row_index.proofs.Seated.{second_told}
use Rattle.row_index.proofs.index.RowIndex.counted.Goals as goal

pub loop-line-preserved : goal.loop-line-preserved
loop-line-preserved c =
    let lines = c.args.lines.now in
    let i = c.loop-line.line-index in
    let line = c.line-item.result in
    let before = seats_of c.loop-line.spoken.rising.items c.loop-line.spoken.others.keys in
    let next = seats_of c.mark_seen.new.self.rising.items c.mark_seen.new.self.others.keys in
    let second = c.in_ok-second.ensures.second ∙ second_told before (take i lines) line c.loop-line.invariant.spoken in
    record {
      rows = counted_next c.args.self.now c.args.t lines (values_of c.loop-line.counted.entries) (values_of c.add_seated_if.new.seated.entries) (rows_after_all_but_upgrades c.args.self.now c.args.t [] lines []) i line c.in_ok-second.second c.may_be_higher-lawful.result c.row_after.result c.loop-line-test.true c.line-item.is second c.may_be_higher-lawful.ensures c.row_after.ensures (c.in_ok-add_seated_if.ensures.rows ∙ ap (λ (b : Bool). cond b (put c.row_after.result (values_of c.loop-line.counted.entries)) (values_of c.loop-line.counted.entries)) c.is_counted.ensures) c.loop-line.invariant.rows;
      seated = c.in_ok-add_seated_if.ensures.seated;
      free = c.in_ok-second.ensures.free;
      spoken = told_next speaks before next lines i line _ c.loop-line-test.true c.line-item.is (search rules) c.in_ok-second.ensures.said c.loop-line.invariant.spoken;
    }
