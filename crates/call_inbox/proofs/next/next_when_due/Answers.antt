use Rattle.std.proofs.Common.{rules}
use Rattle.call_inbox.proofs.Watching.{none_while_waiting, still_waits}
use Rattle.call_inbox.proofs.next.next_when_due.Goals as goal

pub returns-in-None-clause-room : goal.returns-in-None-clause-room
returns-in-None-clause-room c = c.unfinished_calls_are_short.ensures c.args.bytes.now (search rules)

pub returns-in-None-clause-none : goal.returns-in-None-clause-none
returns-in-None-clause-none c = c.unfinished_calls_are_not_whole.ensures.unfinished c.args.bytes.now c.in-None.ensures.none

pub returns-then-not-is_due-clause-waits : goal.returns-then-not-is_due-clause-waits
returns-then-not-is_due-clause-waits c =
    let watch = c.args.watch.now in
    still_waits c.args.bytes.now watch.seen watch.from watch.by_line c.heads_end_with_a_line_feed.ensures.more (c.if-not-is_due.ensures.line (search rules)) c.requires.waits

pub returns-then-not-is_due-clause-none : goal.returns-then-not-is_due-clause-none
returns-then-not-is_due-clause-none c =
    let watch = c.args.watch.now in
    let waits = still_waits c.args.bytes.now watch.seen watch.from watch.by_line c.heads_end_with_a_line_feed.ensures.more (c.if-not-is_due.ensures.line (search rules)) c.requires.waits in
    let laws = c.unfinished_calls_are_not_whole.ensures in
    none_while_waiting c.args.bytes.now watch.from watch.by_line laws.unfinished laws.headless (c.if-not-is_due.ensures.early (search rules)) waits
