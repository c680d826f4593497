-- the events that are left come to what all of them do
use Rattle.std.proofs.Common.{◌≡◌, [], fold}
use Rattle.std.specs.Map.{keys_of}
use Rattle.stats_report.specs.Adding.{with_event}
use Rattle.stats_report.proofs.events.events_by_hazard.Given as goal

abbrev pub invariant-loop-key : goal.invariant-loop-key
invariant-loop-key l = fold with_event l.events.entries l.key-iterator ≡ fold with_event [] (keys_of l.spells.entries)
