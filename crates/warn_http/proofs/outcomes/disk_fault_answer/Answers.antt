use Rattle.std.proofs.Common.{Bool, refl, ◌∙◌}
use Rattle.std.specs.Fmt.{digits}
use Rattle.warn_http.specs.Answers.{phrase_of, answer_text}
use Rattle.warn_http.specs.Outcomes.{call_answer, disk_fault_json}
use Rattle.warn_http.specs.declared.outcomes.Outcome.TheVariants.{DiskFault}
use Rattle.warn_http.proofs.Fixed.{either_is}
use Rattle.warn_http.proofs.outcomes.disk_fault_answer.Goals as goal

pub returns : goal.returns
unfolding answer_text phrase_of digits
returns c = c.fixed.ensures ∙ either_is c.args.last (λ (last : Bool). call_answer DiskFault disk_fault_json last) _ _ refl refl
