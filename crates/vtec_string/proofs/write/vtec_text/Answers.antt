use Rattle.std.proofs.Common.{◌∙◌, sym, subst}
use Rattle.vtec_string.specs.Columns.{IsVtec}
use Rattle.vtec_string.proofs.Laying.{columns_are, columns_of}
use Rattle.vtec_string.proofs.write.vtec_text.Goals as goal

pub returns-clause-columns : goal.returns-clause-columns
returns-clause-columns c =
    let f = c.filled_template.ensures in
    subst (λ bytes. IsVtec bytes c.args.v.now) (sym f.value) (columns_of c.args.v.now f.phenomenon.1 c.requires.office f.phenomenon.0 c.requires.number f.begin f.end)

pub returns-clause-only : goal.returns-clause-only
returns-clause-only c = λ bytes h. columns_are bytes c.args.v.now h ∙ sym c.filled_template.ensures.value
