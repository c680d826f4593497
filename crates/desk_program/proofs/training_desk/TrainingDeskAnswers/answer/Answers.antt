use Rattle.std.proofs.Common.{◌∙◌, ℕ, List, Option, Some, ap, subst, option_map, Bor}
use Rattle.desk_program.specs.Training.{IsTraining, Trained}
use Rattle.desk_program.proofs.TrainingLemmas.{empty_line, empty_of, long_line}
use Rattle.desk_program.proofs.training_desk.TrainingDeskAnswers.answer.Goals as goal

pub returns-in_default-clause-answered : goal.returns-in_default-clause-answered
returns-in_default-clause-answered c = long_line c.args.self.now (option_map (λ bytes. bytes.now) c.args.line) c.refusal_reply.result (subst (λ (d : Trained). IsTraining d.state d.at) c.self.view_is c.self.invariant) (ap (λ (l : Option (Bor (List ℕ))). option_map (λ bytes. bytes.now) l) c.in_default.is) c.refusal_reply.ensures

pub returns-then-is_empty-clause-answered : goal.returns-then-is_empty-clause-answered
returns-then-is_empty-clause-answered c = empty_line c.args.self.now (option_map (λ bytes. bytes.now) c.args.line) (subst (λ (d : Trained). IsTraining d.state d.at) c.self.view_is c.self.invariant) (ap (λ (l : Option (Bor (List ℕ))). option_map (λ bytes. bytes.now) l) c.in-Some.is ∙ ap (λ (l : List ℕ). Some l) (empty_of c.in-Some.line.now c.if-is_empty.ensures))
