-- All zones of the run find the same, or they are parted.
use Rattle.std.proofs.Common.{◌≡◌, ◌∙◌, ◌+◌, ◌++◌, ◌∷◌, List, [], OnOk, take, ap, refl, sym, subst}
use Rattle.hazard_types.specs.Places.{Place}
use Rattle.row_index.specs.Groups.{AreJudged, lines_of, zones_of}
use Rattle.row_index.specs.declared.verdicts.Verdict.{Verdict}
use Rattle.row_index.proofs.Groups.{IsPartly, behind, judged_more, ok_so, partly_next, whole_judged, zones_next}
use Rattle.row_index.proofs.index.RowIndex.add_verdicts.Goals as goal

pub returns-then-more-rest-clause-zones : goal.returns-then-more-rest-clause-zones
returns-then-more-rest-clause-zones c =
    let left = c.as_slice-zones.result.now in
    let old = c.args.out.now.items in
    let all = zones_of old ++ left in
    let same : zones_of old ++ left ≡ all = refl in
    let more = zones_next all left c.in-Some.first.now c.in-Some.rest.now c.judge_first_zone-verdict.result.1 old c.push.new.self.items c.in_ok-part.field-0 c.in-Some.ensures.cases.0 c.in_ok-part.ensures.zones c.in_ok-push.ensures.items same in
    ok_so c.add_parted.result
    (zones_of c.add_parted.new.out.items ≡ zones_of c.push.new.self.items ++ behind c.in-Some.rest.now c.judge_first_zone-verdict.result.1)
    (zones_of c.add_parted.new.out.items ≡ zones_of old ++ c.args.run.zones)
    (λ h. h ∙ more ∙ ap (λ (zs : List Place). zones_of old ++ zs) c.as_slice-zones.ensures) c.add_parted.ensures.zones

pub returns-then-more-rest-clause-judged : goal.returns-then-more-rest-clause-judged
returns-then-more-rest-clause-judged c = λ all ready judged.
    let rows = c.args.self.now in
    let t = c.args.asking.now.t in
    let changed = c.args.asking.now.changed.now in
    let line = c.args.asking.now.line in
    let verdicts = c.args.run.verdicts in
    let v = c.judge_first_zone-verdict.result.0 in
    let n = c.judge_first_zone-verdict.result.1 in
    let zones = c.args.run.zones in
    let rest = c.in-Some.rest.now in
    let r = c.in_ok-part.field-0 in
    let left_is = sym c.as_slice-zones.ensures ∙ c.in-Some.ensures.cases.0 in
    let zones_are = c.in_ok-part.ensures.zones ∙ ap (λ (zs : List Place). take (n + 1) zs) c.as_slice-zones.ensures in
    let verdicts_are = c.in_ok-part.ensures.verdicts ∙ ap (λ (vs : List Verdict). vs ++ v ∷ []) c.as_slice-verdicts.ensures in
    let before : IsPartly rows t all changed line verdicts zones c.args.out.now.items = record { ready = ready; done = judged } in
    let next = partly_next rows t all changed line verdicts v zones c.in-Some.first.now rest n c.args.out.now.items c.push.new.self.items r
    left_is zones_are verdicts_are c.judge_first_zone-verdict.ensures.line (c.judge_first_zone-verdict.ensures.judged all) c.in_ok-push.ensures.items before in
    let parted : IsPartly rows t all changed line c.as_slice-verdicts.result.now (behind rest n) c.push.new.self.items =
    subst (λ (vs : List Verdict). IsPartly rows t all changed line vs (behind rest n) c.push.new.self.items) (sym c.as_slice-verdicts.ensures) next in
    subst (λ (vs : List Verdict). OnOk c.add_parted.result (AreJudged rows t all (lines_of vs ++ line ∷ []) c.add_parted.new.out.items)) c.as_slice-verdicts.ensures
    (c.add_parted.ensures.judged all parted.ready parted.done)

pub returns-clause-judged : goal.returns-clause-judged
returns-clause-judged c = λ all ready judged.
    let line = c.args.asking.now.line in
    let verdicts = c.args.run.verdicts in
    let r = c.in_ok-with_verdict.field-0 in
    let left_is = sym c.as_slice-zones.ensures ∙ c.in-Some.ensures.cases.0 in
    judged_more c.args.self.now c.args.asking.now.t all (lines_of verdicts ++ line ∷ []) c.args.out.now.items c.push-2.new.self.items r c.in_ok-push-2.ensures.items
    (whole_judged c.args.self.now c.args.asking.now.t all c.args.asking.now.changed.now line verdicts c.judge_first_zone-verdict.result.0 c.args.run.zones c.in-Some.first.now c.in-Some.rest.now c.judge_first_zone-verdict.result.1 r
    left_is c.if-more-rest.false c.in_ok-with_verdict.ensures.zones c.in_ok-with_verdict.ensures.verdicts c.judge_first_zone-verdict.ensures.line (c.judge_first_zone-verdict.ensures.judged all) ready) judged
