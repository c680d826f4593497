use Rattle.office_core.proofs.OneLook.{either_way, not_both, one_refusal, one_text}
use Rattle.office_core.proofs.answer_laws.a_look_has_one_answer.Goals as goal

pub returns : goal.returns
returns c = record { either = either_way; not_both = not_both; one_text = one_text; one_refusal = one_refusal }
