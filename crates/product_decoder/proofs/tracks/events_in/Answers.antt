-- The steps of the products make the lives.
use Rattle.std.proofs.Common.{◌≡◌, ◌∙◌, List, ap, sym, subst}
use Rattle.std.proofs.lemmas.Result.{IfOk-weaker}
use Rattle.std.specs.Prelude.{IfOk}
use Rattle.std.specs.List.{flat_map}
use Rattle.std.specs.List.Sorted.{IsStrictlySortedBy}
use Rattle.product_decoder.specs.declared.types.Track.{Track}
use Rattle.product_decoder.specs.Lives.{by_life}
use Rattle.product_decoder.specs.Steps.{Steps, tracks_told}
use Rattle.product_decoder.specs.ZoneSteps.{flat}
use Rattle.product_decoder.proofs.KeyLemmas.{told_tracks, told_sorted}
use Rattle.product_decoder.proofs.tracks.events_in.Goals as goal

pub returns-clause-value : goal.returns-clause-value
returns-clause-value c =
    let told = ap (λ (steps : Steps). tracks_told steps) c.in_ok-steps.ensures ∙ told_tracks c.args.taken.now in
    subst (λ (all : List Track). IfOk c.lives_of.result (λ events. flat_map (λ e. e) events ≡ all)) told c.lives_of.ensures

pub returns-clause-sorted : goal.returns-clause-sorted
returns-clause-sorted c =
    let told = ap (λ (steps : Steps). tracks_told steps) c.in_ok-steps.ensures in
    IfOk-weaker c.lives_of.result (λ events. flat_map (λ e. e) events ≡ tracks_told (flat c.in_ok-steps.steps.entries)) (λ events. IsStrictlySortedBy by_life (flat_map (λ e. e) events))
    (λ events is. subst (λ (all : List Track). IsStrictlySortedBy by_life all) (sym (is ∙ told)) (told_sorted c.args.taken.now)) c.lives_of.ensures
