use Rattle.std.proofs.Common.{sym, ◌∙◌, codes}
use Rattle.std.proofs.lemmas.Slice.Eq.{bytes_eq-Decides}
use Rattle.warn_main.proofs.place.named_place.Goals as goal

pub returns-then-eq : goal.returns-then-eq
returns-then-eq c = (bytes_eq-Decides c.args.word.now (codes "-")).0 (sym c.eq.ensures ∙ c.if-eq.true)
