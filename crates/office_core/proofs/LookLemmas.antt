-- A draft that is found is sound.
use Rattle.std.proofs.Common.{◌≡◌, Option, Some, None, option_map, Bor, subst, sym}
use Rattle.std.specs.Option.{IfSome}
use Rattle.office_types.specs.declared.request.Draft.{Draft}
use Rattle.office_core.specs.Making.{drafted_by}
use Rattle.office_core.specs.Sound.{IsSoundMaking}
use Rattle.office_core.specs.State.{State}

pub found_sound : (s : State) (found : Option (Bor Draft)) (at : Option Draft) → option_map (λ (d : Bor Draft). d.now) found ≡ at →
    IsSoundMaking s (drafted_by at) → IfSome found (λ d. IsSoundMaking s (drafted_by (Some d.now)))
found_sound s None at is sound = tt
found_sound s (Some d) at is sound = subst (λ (o : Option Draft). IsSoundMaking s (drafted_by o)) (sym is) sound
