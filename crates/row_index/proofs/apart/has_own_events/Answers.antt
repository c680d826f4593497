-- One line more.
use Rattle.std.proofs.Common.{arith}
use Rattle.row_index.proofs.Firsts.{events_next, own_few, own_next}
use Rattle.row_index.proofs.apart.has_own_events.Goals as goal

pub returns-then-lines-lt2 : goal.returns-then-lines-lt2
returns-then-lines-lt2 c = λ _. own_few c.args.lines.now (omega arith)

pub loop-line-preserved : goal.loop-line-preserved
loop-line-preserved c =
    let lines = c.args.lines.now in
    let i = c.loop-line.line-index in
    let line = c.line-item.result in
    let events = c.loop-line.events.keys in
    record {
      events = events_next lines i line events c.note_event.new.events.keys c.loop-line-test.true c.line-item.is c.in_ok-new.ensures.keys c.loop-line.invariant.events;
      own = own_next lines i line events c.in_ok-new.new c.loop-line-test.true c.line-item.is c.in_ok-new.ensures.new c.if-not-new.false c.loop-line.invariant.events c.loop-line.invariant.own;
    }
