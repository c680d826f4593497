-- The lines come to the place of their zone and first event.
use Rattle.std.proofs.Common.{rules}
use Rattle.segmenter.proofs.HeadLemmas.{head_added}
use Rattle.segmenter.proofs.zones.add_head.Goals as goal

pub returns-in_ok-insert : goal.returns-in_ok-insert
returns-in_ok-insert c =
    head_added c.insert.new.self.entries c.args.heads.now.entries c.args.group.now c.in-Some.line.now c.args.lines (search rules) (search rules)
