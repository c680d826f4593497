use Rattle.std.proofs.Common.{◌≡◌, drop}
use Rattle.event_life.specs.Openings.{events_opened_by}
use Rattle.event_life.specs.Products.{lawful_of}
use Rattle.event_life.proofs.openings.events_opened_by.Given as goal

-- the events are those of the lines from this place on
abbrev pub invariant-loop-place : goal.invariant-loop-place
invariant-loop-place l = l.events.keys ≡ events_opened_by (lawful_of (drop l.place l.judged))
