use Rattle.std.proofs.Common.{◌≡◌, ◌++◌, drop}
use Rattle.std.specs.List.{flat_map}
use Rattle.product_decoder.proofs.tracks.tracks_of.Given as goal

-- the lives so far, and those of the events that are left
abbrev pub invariant-loop-event : goal.invariant-loop-event
invariant-loop-event l = l.tracks ++ flat_map (λ e. e) (drop l.event-index l.events) ≡ flat_map (λ e. e) l.events
