-- One line more.
use Rattle.std.proofs.Common.{◌∙◌, ◌+◌, ◌++◌, List, take, take_all, ap, sym, subst}
use Rattle.std.specs.List.{AllByRecursion}
use Rattle.hazard_types.specs.Places.{Place}
use Rattle.hazard_types.specs.declared.line.Line.{Line}
use Rattle.row_index.specs.Groups.{AreJudged, Serves, zones_of}
use Rattle.row_index.specs.declared.verdicts.Run.{Run}
use Rattle.row_index.proofs.Every.{every_at}
use Rattle.row_index.proofs.Groups.{whole_begun, zones_more}
use Rattle.row_index.proofs.Seated.{one_longer}
use Rattle.row_index.proofs.index.RowIndex.judge_part.Goals as goal

pub loop-line-init : goal.loop-line-init
loop-line-init c =
    let old = c.in_ok-runs.runs.items in
    let r = c.in_ok-whole.field-0 in
    record {
      zones = zones_more old c.push.new.self.items r c.in_ok-push.ensures.items ∙ ap (λ (runs : List Run). zones_of runs ++ r.zones) c.in_ok-runs.ensures.items ∙ c.in_ok-whole.ensures.zones;
      judged = λ all serves. whole_begun c.args.self.now c.args.t all old c.push.new.self.items r c.in_ok-runs.ensures.items c.in_ok-push.ensures.items c.in_ok-whole.ensures.verdicts;
    }

pub loop-line-preserved : goal.loop-line-preserved
loop-line-preserved c =
    let rows = c.args.self.now in
    let t = c.args.t in
    let changed = c.args.changed.now in
    let zones = c.args.part.now.zones.now in
    let lines = c.as_slice-line-items.result.now in
    let i = c.loop-line.line-index in
    let line = c.line-item.result in
    record {
      zones = c.in_ok-runs-2.ensures.zones ∙ c.loop-line.invariant.zones;
      judged = λ all serves.
          subst (λ (ls : List Line). AreJudged rows t all ls c.in_ok-runs-2.runs.items) (sym (one_longer lines i line c.loop-line-test.true c.line-item.is))
          (c.in_ok-runs-2.ensures.judged all (take i lines) (c.loop-line.invariant.judged all serves)
          (subst (λ (zs : List Place). AllByRecursion (Serves rows t all changed line) zs) (sym c.loop-line.invariant.zones)
          (every_at lines (λ (x : Line). AllByRecursion (Serves rows t all changed x) zones) i line c.loop-line-test.true c.line-item.is serves)));
    }

pub returns-clause-zones : goal.returns-clause-zones
returns-clause-zones c = c.loop-line.invariant.zones

pub returns-clause-judged : goal.returns-clause-judged
returns-clause-judged c = λ all serves.
    let zones = c.args.part.now.zones.now in
    let lines = c.as_slice-line-items.result.now in
    let lines_are = c.as_slice-line-items.ensures in
    subst (λ (ls : List Line). AreJudged c.args.self.now c.args.t all ls c.loop-line.runs.items) (take_all c.loop-line.line-index lines c.loop-line-test.false ∙ lines_are)
    (c.loop-line.invariant.judged all (subst (λ (ls : List Line). AllByRecursion (λ (x : Line). AllByRecursion (Serves c.args.self.now c.args.t all c.args.changed.now x) zones) ls) (sym lines_are) serves))
