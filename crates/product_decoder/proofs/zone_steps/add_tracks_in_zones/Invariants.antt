use Rattle.std.proofs.Common.{◌≡◌, ◌++◌, drop}
use Rattle.product_decoder.specs.Steps.{tracks_told}
use Rattle.product_decoder.specs.ZoneSteps.{zones_told, under}
use Rattle.product_decoder.proofs.zone_steps.add_tracks_in_zones.Given as goal

-- the lives so far, and those of the zones that are left
abbrev pub invariant-loop-zone : goal.invariant-loop-zone
invariant-loop-zone l = l.tracks ++ tracks_told (under l.event (zones_told l.shared (drop l.zone-index l.lasts))) ≡ l.initial.tracks ++ tracks_told (under l.event (zones_told l.shared l.lasts))
