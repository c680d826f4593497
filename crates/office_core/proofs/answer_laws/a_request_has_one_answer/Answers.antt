use Rattle.office_core.proofs.AnswerLemmas.{accepted_once, not_both, not_refused, not_repeated, refused_once}
use Rattle.office_core.proofs.answer_laws.a_request_has_one_answer.Goals as goal

pub returns : goal.returns
returns c = record { accepted = accepted_once; refused = refused_once; apart = not_both; repeated = not_repeated; unrefused = not_refused }
