-- What the lines do one by one, in all zones, is what they do zone by zone.
use Rattle.std.proofs.Common.{◌∙◌, List, [], drop, length, ap, sym, subst, ◌≡◌, ◌≤◌}
use Rattle.std.specs.Prelude.{fold}
use Rattle.std.proofs.lemmas.List.{drop_all}
use Rattle.hazard_types.specs.Places.{Place}
use Rattle.row_index.specs.declared.verdicts.Verdict.{Verdict}
use Rattle.product_decoder.specs.ZoneSteps.{flat, with_verdict}
use Rattle.product_decoder.proofs.Nested.{run_told}
use Rattle.product_decoder.proofs.tracks.add_run.Goals as goal

pub returns-clause-put : goal.returns-clause-put
returns-clause-put c =
    let r = c.args.run.now in
    let issue = c.args.issue.now in
    let old = flat c.args.steps.now.entries in
    let zones = c.as_slice-zones.result.now in
    let end : drop c.loop-verdict.verdict-index r.verdicts ≡ [] = drop_all c.loop-verdict.verdict-index r.verdicts (subst (λ (vs : List Verdict). length vs ≤ c.loop-verdict.verdict-index) c.as_slice-verdict-items.ensures c.loop-verdict-test.false) in
    sym (ap (λ (left : List Verdict). fold (with_verdict issue zones) (flat c.loop-verdict.steps.entries) left) end)
    ∙ c.loop-verdict.invariant.put
    ∙ ap (λ (zones : List Place). fold (with_verdict issue zones) old r.verdicts) c.as_slice-zones.ensures
    ∙ run_told issue r old c.requires.apart
