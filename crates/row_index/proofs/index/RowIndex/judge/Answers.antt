-- One line more.
use Rattle.std.proofs.Common.{◌∙◌, take, rules}
use Rattle.std.specs.Map.{values_of}
use Rattle.event_life.specs.Products.{judged}
use Rattle.row_index.specs.Risen.{seats_of}
use Rattle.row_index.specs.Seating.{speaks}
use Rattle.row_index.proofs.Asked.{judged_next, any_upgrade, over_at}
use Rattle.row_index.proofs.Saying.{told_next}
use Rattle.row_index.proofs.Seated.{second_told}
use Rattle.row_index.proofs.index.RowIndex.judge.Goals as goal

pub loop-line-preserved : goal.loop-line-preserved
loop-line-preserved c =
    let lines = c.args.lines.now in
    let i = c.loop-line.line-index in
    let line = c.line-item.result in
    let earlier = take i lines in
    let before = seats_of c.loop-line.spoken.rising.items c.loop-line.spoken.others.keys in
    let next = seats_of c.mark_seen.new.self.rising.items c.mark_seen.new.self.others.keys in
    let second = c.in_ok-second.ensures.second ∙ second_told before earlier line c.loop-line.invariant.spoken in
    let breach = c.breach_in-breach.ensures lines earlier (λ h. c.in_ok-changed.ensures.changed (any_upgrade lines i line c.loop-line-test.true c.line-item.is h)) (λ h. over_at c.args.self.now c.args.t lines (values_of c.in_ok-changed.changed.higher.entries) i line c.loop-line-test.true c.line-item.is h (c.in_ok-changed.ensures.over (any_upgrade lines i line c.loop-line-test.true c.line-item.is h))) second in
    record {
      found = judged_next c.args.self.now c.args.t lines c.loop-line.found.items c.push.new.self.items (judged c.args.self.now c.args.t lines) i line c.breach_in-breach.result c.loop-line-test.true c.line-item.is breach c.in_ok-push.ensures.items c.loop-line.invariant.found;
      free = c.in_ok-second.ensures.free;
      spoken = told_next speaks before next lines i line _ c.loop-line-test.true c.line-item.is (search rules) c.in_ok-second.ensures.said c.loop-line.invariant.spoken;
      near = c.rows_near-rows.ensures;
      asked = c.around_near-around.ensures;
    }
