-- the lines so far, and those of the zones that are left, are those of all; a zone that was looked at tells that the rows stand in order
use Rattle.std.proofs.Common.{◌≡◌, ◌<◌, ◌++◌, drop}
use Rattle.std.specs.List.Sorted.{IsStrictlySortedBy}
use Rattle.event_life.specs.Products.{by_key}
use Rattle.action_planner.specs.Lines.{added_in}
use Rattle.action_planner.proofs.lines.add_in_zones.Given as goal

abbrev pub invariant-loop-zone : goal.invariant-loop-zone
invariant-loop-zone l =
    (l.lines ++ added_in l.category l.sending.rows l.sending.minute l.sending.intents (drop l.zone-index l.zones) ≡ l.initial.lines ++ added_in l.category l.sending.rows l.sending.minute l.sending.intents l.zones)
    × (0 < l.zone-index → IsStrictlySortedBy by_key l.sending.rows)
