-- The rows of the touched zones say what all rows do.
use Rattle.std.proofs.Common.{◌≡◌, ◌∙◌, ◌<◌, ◌++◌, List, length, Result, Ok, Err, OnOk, ap, sym, subst}
use Rattle.std.specs.List.{list_any}
use Rattle.hazard_types.specs.Places.{Place}
use Rattle.hazard_types.specs.Same.{same_zone}
use Rattle.hazard_types.specs.declared.line.Line.{Line}
use Rattle.action_planner.specs.Lines.{added_in}
use Rattle.action_planner.specs.Placed.{touches}
use Rattle.action_planner.proofs.AddedLemmas.{added_of_zones}
use Rattle.action_planner.proofs.lines.add_continued.Goals as goal

on_both : {A E : Type 0} (r : Result A E) (P Q R : Type 0) → (P → Q → R) → OnOk r P → OnOk r Q → OnOk r R
on_both (Ok x) P Q R f p q = f p q
on_both (Err e) P Q R f p q = tt

pub returns : goal.returns
returns c =
    let category = c.args.category in
    let s = c.args.sending.now in
    let touched : (z : Place) → list_any (λ (y : Place). same_zone y z) c.in_ok-zones.zones ≡ list_any (touches z) s.intents = λ z. c.in_ok-zones.ensures.touched z ∙ ap (list_any (touches z)) c.spoken.ensures in
    on_both c.add_in_zones.result _ _ _ (λ lines order.
    lines
    ∙ ap (λ (zones : List Place). c.args.lines.now ++ added_in category s.rows s.minute s.intents zones) c.as_slice.ensures
    ∙ ap (λ (more : List Line). c.args.lines.now ++ more)
    (added_of_zones category s.minute s.intents s.rows c.in_ok-zones.zones c.in_ok-zones.ensures.order touched (λ some. order (subst (λ (zones : List Place). 0 < length zones) (sym c.as_slice.ensures) some))))
    c.add_in_zones.ensures.lines c.add_in_zones.ensures.order
