-- A product without breaches adds none.
use Rattle.std.proofs.Common.{◌∙◌, sym}
use Rattle.product_decoder.proofs.RunLemmas.{none_found}
use Rattle.product_decoder.proofs.findings.add_breaches.Goals as goal

pub returns-then-not-has_breach : goal.returns-then-not-has_breach
returns-then-not-has_breach c = none_found c.args.out.now c.args.count c.args.product.now.judged (sym c.has_breach.ensures ∙ c.if-not-has_breach.true)
