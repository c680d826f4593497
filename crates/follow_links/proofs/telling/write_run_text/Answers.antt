use Rattle.std.proofs.Common.{rules}
use Rattle.follow_links.proofs.Ending.{told_zero, told_other}
use Rattle.follow_links.proofs.telling.write_run_text.Goals as goal

pub returns-then-ended-eq0 : goal.returns-then-ended-eq0
returns-then-ended-eq0 g c =
    let before = g.K.Sink.outflow c.args.output.now in
    let w = c.write_text-end.ensures.written in
    told_zero c.args.text.now c.args.status before (g.K.Sink.outflow c.end_run-ended.new.output) c.end_run-ended.result c.write_text-end.result c.requires c.write_text-end.ensures.ends
    (c.end_run-ended.ensures before c.args.text.now w.0 w.1) (search rules)

pub returns-else-ended-eq0 : goal.returns-else-ended-eq0
returns-else-ended-eq0 g c =
    let before = g.K.Sink.outflow c.args.output.now in
    let w = c.write_text-end.ensures.written in
    told_other c.args.text.now c.args.status before (g.K.Sink.outflow c.end_run-ended.new.output) c.end_run-ended.result c.write_text-end.result c.write_text-end.ensures.ends
    (c.end_run-ended.ensures before c.args.text.now w.0 w.1) (search rules)
