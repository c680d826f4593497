-- No draft was touched after minute 52,000,000.
use Rattle.std.proofs.Common.{◌≡◌, ◌≤◌, ℕ, List, Option, Some, None, option_map, Bor, arith, sym}
use Rattle.std.proofs.lemmas.List.Elements.{recursion_from_All}
use Rattle.std.specs.Option.{IfSome}
use Rattle.office_types.specs.declared.request.Draft.{Draft}
use Rattle.event_numbers.specs.declared.Count.{Count}
use Rattle.office_core.specs.Sound.{IsSound}
use Rattle.office_core.specs.State.{State, draft_at, is_draft}
use Rattle.office_core.proofs.SoundFirst.{found_holds}

pub touched_early : (s : State) (counts : List Count) (id : ℕ) (found : Option (Bor Draft)) → option_map (λ (d : Bor Draft). d.now) found ≡ draft_at s id → IsSound s counts →
    IfSome found (λ d. d.now.touched ≤ 52000000)
touched_early s counts id None is sound = tt
touched_early s counts id (Some d) is sound =
    let E : Draft → Type 0 = λ x. x.touched ≤ s.last in
    let early : d.now.touched ≤ s.last = found_holds E (is_draft id) s.drafts d.now (recursion_from_All E s.drafts sound.touched) (sym is) in
    let minute = sound.minute in
    omega (arith, early, minute)
