use Rattle.office_core.proofs.OnceLemmas.{stand_once}
use Rattle.office_core.proofs.history_laws.requests_stand_once.Goals as goal

-- src/history_laws.rt:10:1
pub returns : goal.returns
returns c = λ fits settings class entries s h. stand_once fits settings class entries s h
