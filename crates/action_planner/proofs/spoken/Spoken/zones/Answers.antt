-- the zones that are held are those that are touched
use Rattle.std.proofs.Common.{◌∙◌, List, Result, Ok, Err, IfOk, ap}
use Rattle.std.specs.List.{list_any}
use Rattle.hazard_types.specs.Places.{Place}
use Rattle.hazard_types.specs.Same.{same_zone}
use Rattle.action_planner.specs.Placed.{touches}
use Rattle.action_planner.proofs.SpokenLemmas.{zone_listed}
use Rattle.action_planner.proofs.spoken.Spoken.zones.Goals as goal

if_ok : {A E : Type 0} (r : Result A E) (P Q : A → Type 0) → ((x : A) → P x → Q x) → IfOk r P → IfOk r Q
if_ok (Ok x) P Q f p = f x p
if_ok (Err e) P Q f p = tt

pub returns-clause-touched : goal.returns-clause-touched
returns-clause-touched c =
    if_ok c.listed.result _ _ (λ zones is z.
    ap (λ (some : List Place). list_any (λ (y : Place). same_zone y z) some) is
    ∙ zone_listed z c.self.inside.zones.keys c.self.inside.ps.now c.self.invariant.touched
    ∙ ap (list_any (touches z)) c.self.view_is) c.listed.ensures.zones
