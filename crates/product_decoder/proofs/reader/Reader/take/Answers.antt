-- What is kept is the product that was given.
use Rattle.std.proofs.Common.{◌∙◌}
use Rattle.std.proofs.lemmas.Result.{on_ok_weaker}
use Rattle.row_index.specs.Verdicts.{expand}
use Rattle.product_decoder.proofs.Said.{kept_judged, kept_next}
use Rattle.product_decoder.proofs.reader.Reader.take.Goals as goal

pub keep-requires-clause-judged : goal.keep-requires-clause-judged
keep-requires-clause-judged c = kept_judged c.in_ok-rows.rows c.args.d.now (expand c.in_ok-runs.runs) _ _ c.self.view_is c.in_ok-runs.ensures.told

pub returns-clause-ok : goal.returns-clause-ok
returns-clause-ok c =
    on_ok_weaker c.keep.result
    (λ is. is ∙ kept_next c.in_ok-rows.rows c.args.d.now (expand c.in_ok-runs.runs) _ _ _ c.self.view_is c.rows_before.ensures.unchanged c.in_ok-runs.ensures.told)
    c.keep.ensures.ok
