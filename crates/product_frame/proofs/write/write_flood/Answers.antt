use Rattle.std.proofs.Common.{List, ℕ, subst}
use Rattle.hvtec_string.specs.Columns.{IsHvtec}
use Rattle.product_frame.specs.LineRules.{HasFloodColumns}
use Rattle.product_frame.proofs.Runs.{on_ok}
use Rattle.product_frame.proofs.write.write_flood.Goals as goal

pub returns-in-Some-clause-columns : goal.returns-in-Some-clause-columns
returns-in-Some-clause-columns c = on_ok c.write_line.result (HasFloodColumns c.args.flood.now) (rw c.in-Some.is (subst (λ (t : List ℕ). IsHvtec t c.in-Some.flood) c.hvtec_text.ensures.value c.hvtec_text.ensures.columns))
