-- The lines of the runs are those of the product.
use Rattle.std.proofs.Common.{◌∙◌, List, [], drop, ap, sym, rules, ◌≡◌}
use Rattle.std.proofs.lemmas.List.{drop_all}
use Rattle.row_index.specs.declared.verdicts.Run.{Run}
use Rattle.product_decoder.specs.Steps.{with_lines, with_runs}
use Rattle.product_decoder.specs.ZoneSteps.{flat}
use Rattle.product_decoder.proofs.Nested.{runs_told}
use Rattle.product_decoder.proofs.tracks.add_product.Goals as goal

pub returns-clause-put : goal.returns-clause-put
returns-clause-put c =
    let runs = c.runs-run-items.result.now in
    let end : drop c.loop-run.run-index runs ≡ [] = drop_all c.loop-run.run-index runs (search rules) in
    let old = flat c.args.steps.now.entries in
    sym (ap (λ (left : List Run). with_runs c.issue-issue.result (flat c.loop-run.steps.entries) left) end)
    ∙ c.loop-run.invariant.put ∙ runs_told c.issue-issue.result old runs
    ∙ (λ i. with_lines (c.issue-issue.ensures i) old (c.runs-run-items.ensures.judged i))
