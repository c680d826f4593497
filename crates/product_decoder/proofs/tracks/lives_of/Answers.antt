-- One event's steps more tell its lives more.
use Rattle.std.proofs.Common.{◌∙◌, ◌++◌, ◌∷◌, [], List, ap, sym}
use Rattle.std.proofs.lemmas.List.{flat_map_more}
use Rattle.std.specs.List.{flat_map}
use Rattle.hazard_types.specs.declared.hazard.Event.{Event}
use Rattle.product_decoder.specs.declared.types.Track.{Track}
use Rattle.product_decoder.specs.Steps.{tracks_told}
use Rattle.product_decoder.specs.ZoneSteps.{under}
use Rattle.product_decoder.proofs.Nested.{tracks_more}
use Rattle.product_decoder.proofs.tracks.lives_of.Goals as goal

pub loop-key-preserved : goal.loop-key-preserved
loop-key-preserved c =
    ap (λ (events : List (List Track)). flat_map (λ e. e) events) c.in_ok-push.ensures.ok
    ∙ ap (λ (e : Event). flat_map (λ e. e) (c.loop-key.events ++ tracks_told (under e c.in-Some.zones) ∷ [])) c.key.view_is
    ∙ sym (flat_map_more (λ (e : List Track). e) [] c.loop-key.events (tracks_told (under c.in-Some.key c.in-Some.zones)))
    ∙ ap (λ (tracks : List Track). tracks ++ tracks_told (under c.in-Some.key c.in-Some.zones)) c.loop-key.invariant
    ∙ sym (tracks_more c.loop-key.yielded (c.in-Some.key, c.in-Some.zones))
