-- One part more.
use Rattle.row_index.specs.Groups.{AreServed}
use Rattle.row_index.specs.Verdicts.{lines_in, HaveOwnEvents}
use Rattle.row_index.specs.declared.verdicts.Part.{Part}
use Rattle.row_index.proofs.Every.{every_at}
use Rattle.row_index.proofs.Told.{served, told_next}
use Rattle.row_index.proofs.index.RowIndex.judge_apart.Goals as goal

pub loop-part-preserved : goal.loop-part-preserved
loop-part-preserved c =
    let rows = c.args.self.now in
    let t = c.args.t in
    let parts = c.args.parts.now in
    let all = lines_in parts in
    let changed = c.in_ok-changed.changed in
    let i = c.loop-part.part-index in
    let part = c.part-item.result in
    let lt = c.loop-part-test.true in
    let is = c.part-item.is in
    let serves = every_at parts (AreServed rows t all changed) i part lt is
    (served rows t parts changed c.in_ok-changed.ensures.changed c.in_ok-changed.ensures.over) in
    told_next rows t all parts i part c.loop-part.all.items c.append.new.self.items c.in_ok-runs.runs.items lt is c.in_ok-append.ensures.items c.in_ok-runs.ensures.zones (c.in_ok-runs.ensures.judged all serves)
    (every_at parts (λ (p : Part). HaveOwnEvents p.lines) i part lt is c.requires.events) c.loop-part.invariant
