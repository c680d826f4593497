-- One run more.
use Rattle.std.proofs.Common.{◌∙◌, ◌++◌, ◌∷◌, List, [], ap, sym, subst}
use Rattle.std.specs.List.{AllByRecursion}
use Rattle.row_index.specs.Groups.{AreJudged, Serves, zones_of}
use Rattle.row_index.specs.declared.verdicts.Run.{Run}
use Rattle.row_index.proofs.Groups.{line_next, runs_done, zones_left}
use Rattle.row_index.proofs.index.RowIndex.judge_line.Goals as goal

pub loop-run-init : goal.loop-run-init
loop-run-init c =
    let rows = c.args.self.now in
    let t = c.args.t in
    let line = c.args.line.now in
    let changed = c.args.changed.now in
    let rest_is = c.into_iter-run-iterator.ensures.into_iter_gives.0 in
    let out_is = c.in_ok-out.ensures.items in
    record {
      zones = ap (λ (runs : List Run). zones_of runs ++ zones_of c.into_iter-run-iterator.result.rest.items) out_is ∙ ap zones_of rest_is;
      judged = λ all lines judged serves. record {
        judged = subst (λ (runs : List Run). AreJudged rows t all lines runs) (sym rest_is) judged;
        serves = subst (λ (runs : List Run). AllByRecursion (Serves rows t all changed line) (zones_of runs)) (sym rest_is) serves;
        done = subst (λ (runs : List Run). AreJudged rows t all (lines ++ line ∷ []) runs) (sym out_is) tt;
      };
    }

pub loop-run-preserved : goal.loop-run-preserved
loop-run-preserved c =
    let rest = c.loop-run.run-iterator.rest.items in
    let more = c.next.new.self.rest.items in
    let run = c.in-Some.run' in
    let rest_is = c.in-Some.ensures.steps.0 in
    record {
      zones = zones_left (zones_of c.args.runs.items) rest more c.loop-run.out.items c.add_verdicts.new.out.items run rest_is c.in_ok-add_verdicts.ensures.zones c.loop-run.invariant.zones;
      judged = λ all lines judged serves. line_next c.args.self.now c.args.t all c.args.changed.now c.args.line.now lines rest more c.loop-run.out.items c.add_verdicts.new.out.items run rest_is
          (c.in_ok-add_verdicts.ensures.judged all) (c.loop-run.invariant.judged all lines judged serves);
    }

pub returns-clause-zones : goal.returns-clause-zones
returns-clause-zones c =
    let rest = c.loop-run.run-iterator.rest in
    runs_done (zones_of c.args.runs.items) c.loop-run.out.items rest.items rest.len rest.ok.0 c.in-None.ensures.steps.0 c.loop-run.invariant.zones

pub returns-clause-judged : goal.returns-clause-judged
returns-clause-judged c = λ all lines judged serves. (c.loop-run.invariant.judged all lines judged serves).done
