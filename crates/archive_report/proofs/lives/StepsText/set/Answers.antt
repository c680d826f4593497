-- Steps that compare equal have one text.
use Rattle.std.proofs.Common.{◌≡◌, ◌∙◌, ◌&&◌, ℕ, List, [], ◌∷◌, Bool, true, refl, ap, sym}
use Rattle.std.proofs.lemmas.Bool.{and_parts}
use Rattle.std.specs.Cmp.Lexicographic.{pointwise}
use Rattle.hazard_types.specs.contracts.codes.ActionPartialEq.TheImpl as action
use Rattle.hazard_types.specs.contracts.minute.MinutePartialEq.TheImpl as minute
use Rattle.hazard_types.specs.declared.codes.Action.{Action}
use Rattle.hazard_types.proofs.Equality.{action_one, minute_one}
use Rattle.archive_report.specs.Texts.{steps_text}
use Rattle.archive_report.proofs.lives.StepsText.set.Goals as goal

abbrev same_step : Action × ℕ → Action × ℕ → Bool
same_step x y = action.eq-value.it x.0 y.0 && minute.eq-value.it x.1 y.1

steps_one : (xs ys : List (Action × ℕ)) → pointwise same_step xs ys ≡ true → xs ≡ ys
steps_one [] [] h = refl
steps_one (x ∷ xs) (y ∷ ys) h =
    let p = and_parts (same_step x y) _ h in
    let q = and_parts (action.eq-value.it x.0 y.0) _ p.0 in
    let action_is = action_one x.0 y.0 q.0 in
    let minute_is = minute_one x.1 y.1 q.1 in
    let rest_is = steps_one xs ys p.1 in
    λ i. (action_is i, minute_is i) ∷ rest_is i
steps_one _ _ h = cc

pub returns-then-eq : goal.returns-then-eq
returns-then-eq c =
    sym c.self.view_is ∙ c.self.invariant ∙ ap steps_text (steps_one c.self.inside.steps c.args.steps.now (sym c.eq.ensures ∙ c.if-eq.true))
