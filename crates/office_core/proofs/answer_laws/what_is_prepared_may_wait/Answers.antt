use Rattle.office_core.proofs.PreparedLemmas.{still_committed}
use Rattle.office_core.proofs.answer_laws.what_is_prepared_may_wait.Goals as goal

pub returns : goal.returns
returns c = λ o now p state counts room may. still_committed o now state counts room p may
