use Rattle.notice_json.proofs.Floats.{refusal_no_float}
use Rattle.notice_json.proofs.refusal_texts.refusal_text.Goals as goal

pub text_of_members-requires : goal.text_of_members-requires
text_of_members-requires c = rw (c.in_ok-set_values.ensures, c.in_ok-members.ensures) (refusal_no_float c.args.refusal.now _)
