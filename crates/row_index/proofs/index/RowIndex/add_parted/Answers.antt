-- One group of zones more.
use Rattle.std.proofs.Common.{◌++◌}
use Rattle.row_index.specs.Groups.{zones_of}
use Rattle.row_index.proofs.Groups.{behind_shorter, partly_next, zones_done, zones_next}
use Rattle.row_index.proofs.index.RowIndex.add_parted.Goals as goal

pub loop-first-smaller : goal.loop-first-smaller
loop-first-smaller c = behind_shorter c.loop-first.left.now c.in-Some.first.now c.in-Some.rest.now c.judge_first_zone-verdict.result.1 c.in-Some.ensures.cases.0

pub loop-first-preserved : goal.loop-first-preserved
loop-first-preserved c =
    let left = c.loop-first.left.now in
    let first = c.in-Some.first.now in
    let rest = c.in-Some.rest.now in
    let n = c.judge_first_zone-verdict.result.1 in
    let old = c.loop-first.out.items in
    let new = c.push.new.self.items in
    let r = c.in_ok-part.field-0 in
    record {
      zones = zones_next (zones_of c.args.out.now.items ++ c.args.zones.now) left first rest n old new r c.in-Some.ensures.cases.0 c.in_ok-part.ensures.zones c.in_ok-push.ensures.items c.loop-first.invariant.zones;
      judged = λ all ready judged. partly_next c.args.self.now c.args.asking.now.t all c.args.asking.now.changed.now c.args.asking.now.line c.args.verdicts.now c.judge_first_zone-verdict.result.0 left first rest n old new r
          c.in-Some.ensures.cases.0 c.in_ok-part.ensures.zones c.in_ok-part.ensures.verdicts c.judge_first_zone-verdict.ensures.line (c.judge_first_zone-verdict.ensures.judged all) c.in_ok-push.ensures.items
          (c.loop-first.invariant.judged all ready judged);
    }

pub returns-clause-zones : goal.returns-clause-zones
returns-clause-zones c = zones_done _ c.loop-first.out.items c.loop-first.left.now c.in_default.ensures.cases c.loop-first.invariant.zones

pub returns-clause-judged : goal.returns-clause-judged
returns-clause-judged c = λ all ready judged. (c.loop-first.invariant.judged all ready judged).done
