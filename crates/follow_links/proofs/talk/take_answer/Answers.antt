use Rattle.std.proofs.Common.{refl, rules, ◌∙◌, sym}
use Rattle.std.proofs.lemmas.List.{take_rest}
use Rattle.follow_links.proofs.Ending.{end_is}
use Rattle.follow_links.proofs.talk.take_answer.Goals as goal

pub returns-then-is_end_answer : goal.returns-then-is_end_answer
returns-then-is_end_answer c = (end_is c.args.bytes.now c.args.shape.now c.requires (search rules) (sym (take_rest c.args.bytes.now c.args.shape.now.from) ∙ c.is_end_answer.ensures.0 (search rules)), refl)
