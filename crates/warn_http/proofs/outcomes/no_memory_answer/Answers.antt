use Rattle.std.proofs.Common.{Bool, refl, ◌∙◌}
use Rattle.std.specs.Fmt.{digits}
use Rattle.warn_http.specs.Answers.{phrase_of, answer_text}
use Rattle.warn_http.specs.Outcomes.{call_answer, no_memory_json}
use Rattle.warn_http.specs.declared.outcomes.Outcome.TheVariants.{OutOfMemory}
use Rattle.warn_http.proofs.Fixed.{either_is}
use Rattle.warn_http.proofs.outcomes.no_memory_answer.Goals as goal

pub returns : goal.returns
unfolding answer_text phrase_of digits
returns c = c.fixed.ensures ∙ either_is c.args.last (λ (last : Bool). call_answer OutOfMemory no_memory_json last) _ _ refl refl
