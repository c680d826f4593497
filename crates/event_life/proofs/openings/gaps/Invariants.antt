-- what was found so far, with what will be, is what is found of all events, and the last numbers are those of the events so far
use Rattle.std.proofs.Common.{◌≡◌, ◌++◌, [], take, drop}
use Rattle.event_life.specs.Lasts.{AreLast}
use Rattle.event_life.specs.Openings.{gaps_from}
use Rattle.event_life.proofs.openings.gaps.Given as goal

abbrev pub invariant-loop-event : goal.invariant-loop-event
invariant-loop-event l = (l.found.items ++ gaps_from (take l.event-index l.opened) (drop l.event-index l.opened) ≡ gaps_from [] l.opened) × AreLast l.lasts.entries (take l.event-index l.opened)
