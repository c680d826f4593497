-- One verdict more.
use Rattle.std.proofs.Common.{ap}
use Rattle.hazard_types.specs.declared.line.Line.{Line}
use Rattle.row_index.specs.Runs.{in_zone}
use Rattle.row_index.specs.declared.verdicts.Verdict.{Verdict}
use Rattle.row_index.proofs.Spelling.{map_next}
use Rattle.row_index.proofs.verdicts.Run.add_zone.Goals as goal

pub loop-verdict-preserved : goal.loop-verdict-preserved
loop-verdict-preserved c =
    let verdict = c.verdict-item.result in
    map_next (λ (v : Verdict). (in_zone v.line c.args.zone.now, v.breach)) c.as_slice-verdict-items.result.now c.loop-verdict.verdict-index verdict (c.in_zone.result, verdict.breach) c.args.out.now.items c.loop-verdict.out.items c.push.new.self.items
    c.loop-verdict-test.true c.verdict-item.is (ap (λ (l : Line). (l, verdict.breach)) c.in_zone.ensures) c.in_ok-push.ensures.items c.loop-verdict.invariant
