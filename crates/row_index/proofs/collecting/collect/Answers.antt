-- The line comes to the pending run.
use Rattle.row_index.proofs.Collected.{with_joined}
use Rattle.row_index.proofs.collecting.collect.Goals as goal

pub returns-then-joined : goal.returns-then-joined
returns-then-joined c =
    with_joined c.in_ok-joined.joined c.args.verdict.now c.args.runs.now.items c.args.last.now c.join.new.last c.if-joined.true c.in_ok-joined.ensures
