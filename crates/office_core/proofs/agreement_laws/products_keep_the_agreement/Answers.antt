-- The text of a product says what its plan does, and the reader judges it as the planner did.
use Rattle.office_core.proofs.AgreementLaws.{keeps_agreement}
use Rattle.office_core.proofs.agreement_laws.products_keep_the_agreement.Goals as goal

pub returns : goal.returns
returns c = keeps_agreement
