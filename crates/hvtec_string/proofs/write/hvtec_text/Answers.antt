use Rattle.std.proofs.Common.{◌∙◌, sym, subst}
use Rattle.hvtec_string.specs.Columns.{IsHvtec}
use Rattle.hvtec_string.proofs.Laying.{columns_are, columns_of}
use Rattle.hvtec_string.proofs.write.hvtec_text.Goals as goal

pub returns-clause-columns : goal.returns-clause-columns
returns-clause-columns c =
    let f = c.filled_template.ensures in
    subst (λ bytes. IsHvtec bytes c.args.h.now) (sym f.value) (columns_of c.args.h.now f.cause.1 c.requires f.cause.0 f.begin f.crest f.end)

pub returns-clause-only : goal.returns-clause-only
returns-clause-only c = λ bytes is. columns_are bytes c.args.h.now is ∙ sym c.filled_template.ensures.value
