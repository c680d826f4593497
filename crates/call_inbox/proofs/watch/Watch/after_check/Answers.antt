use Rattle.call_inbox.proofs.Watching.{waits_for_body, waits_for_line}
use Rattle.call_inbox.proofs.watch.Watch.after_check.Goals as goal

pub returns-in-Some-clause-waits : goal.returns-in-Some-clause-waits
returns-in-Some-clause-waits c =
    waits_for_body c.args.bytes.now c.in-Some.missing c.for_body.result.from c.for_body.result.by_line c.for_body.ensures.by_line c.requires c.for_body.ensures.from c.in-Some.ensures.fewer

pub returns-in-None-clause-waits : goal.returns-in-None-clause-waits
returns-in-None-clause-waits c =
    waits_for_line c.args.bytes.now c.for_line.result.from c.for_line.result.by_line c.for_line.ensures.by_line c.requires c.in-None.ensures.body
