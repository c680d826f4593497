use Rattle.std.proofs.Common.{List, ℕ, subst}
use Rattle.vtec_string.specs.Columns.{IsVtec, vtec_text}
use Rattle.product_frame.specs.LineRules.{HasFloodColumns}
use Rattle.product_frame.proofs.Runs.{on_ok_too}
use Rattle.product_frame.proofs.write.write_pair.Goals as goal

pub returns-clause-columns : goal.returns-clause-columns
returns-clause-columns c = on_ok_too c.write_flood.result (IsVtec (vtec_text c.args.pair.now.vtec) c.args.pair.now.vtec) (HasFloodColumns c.args.pair.now.flood) (subst (λ (t : List ℕ). IsVtec t c.args.pair.now.vtec) c.vtec_text.ensures.value c.vtec_text.ensures.columns) c.write_flood.ensures.columns
