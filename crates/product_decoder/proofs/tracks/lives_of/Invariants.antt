use Rattle.std.proofs.Common.{◌≡◌}
use Rattle.std.specs.List.{flat_map}
use Rattle.product_decoder.specs.Steps.{tracks_told}
use Rattle.product_decoder.specs.ZoneSteps.{flat}
use Rattle.product_decoder.proofs.tracks.lives_of.Given as goal

-- the lives so far
abbrev pub invariant-loop-key : goal.invariant-loop-key
invariant-loop-key l = flat_map (λ e. e) l.events ≡ tracks_told (flat l.yielded)
