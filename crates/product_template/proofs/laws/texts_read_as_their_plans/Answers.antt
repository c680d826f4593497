use Rattle.product_template.proofs.Writable.{text_framed, text_alone}
use Rattle.product_template.proofs.laws.texts_read_as_their_plans.Goals as goal

pub returns-clause-frame : goal.returns-clause-frame
returns-clause-frame c = text_framed

pub returns-clause-one : goal.returns-clause-one
returns-clause-one c = text_alone
