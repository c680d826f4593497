-- One zone more.
use Rattle.std.proofs.Common.{ℕ, take, rules, subst, sym}
use Rattle.std.specs.List.{AllByRecursion}
use Rattle.hazard_types.specs.Places.{Place}
use Rattle.row_index.specs.Groups.{IsJudgedAt, Serves}
use Rattle.row_index.proofs.Every.{every_at, every_next}
use Rattle.row_index.proofs.Groups.{judged_same}
use Rattle.row_index.proofs.index.RowIndex.count_upgraded.Goals as goal

pub loop-zone-preserved : goal.loop-zone-preserved
loop-zone-preserved c =
    let rows = c.args.self.now in
    let t = c.args.asking.now.t in
    let line = c.args.asking.now.line in
    let zones = c.args.zones.now in
    let i = c.loop-zone.zone-index in
    let zone = c.zone-item.result in
    let other = c.verdict_at-other.result in
    record {
      count = search rules;
      judged = λ all serves. every_next zones (λ (z : Place). IsJudgedAt rows t all z c.args.verdict.now) i zone c.loop-zone-test.true c.zone-item.is
          (judged_same rows t all line zone other c.args.verdict.now c.requires.line (c.have_same_findings.ensures (search rules)) c.verdict_at-other.ensures.found
          (c.verdict_at-other.ensures.breach all (every_at zones (Serves rows t all c.args.asking.now.changed.now line) i zone c.loop-zone-test.true c.zone-item.is serves)))
          (c.loop-zone.invariant.judged all serves);
    }

pub returns-then-not-have_same_findings-clause-judged : goal.returns-then-not-have_same_findings-clause-judged
returns-then-not-have_same_findings-clause-judged c = λ all serves.
    subst (λ (n : ℕ). AllByRecursion (λ (z : Place). IsJudgedAt c.args.self.now c.args.asking.now.t all z c.args.verdict.now) (take n c.args.zones.now)) (sym c.loop-zone.invariant.count)
    (c.loop-zone.invariant.judged all serves)

pub returns-clause-judged : goal.returns-clause-judged
returns-clause-judged c = λ all serves.
    subst (λ (n : ℕ). AllByRecursion (λ (z : Place). IsJudgedAt c.args.self.now c.args.asking.now.t all z c.args.verdict.now) (take n c.args.zones.now)) (sym c.loop-zone.invariant.count)
    (c.loop-zone.invariant.judged all serves)
