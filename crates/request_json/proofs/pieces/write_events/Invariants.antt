use Rattle.std.proofs.Common.{◌≡◌, ◌++◌, false, drop}
use Rattle.serde_json.specs.Written.{items_text}
use Rattle.request_json.specs.Replies.{event_items}
use Rattle.request_json.proofs.pieces.write_events.Given as goal

-- the events that are left follow
abbrev pub invariant-loop-event : goal.invariant-loop-event
invariant-loop-event l =
    l.initial.out ++ items_text false (event_items l.events) ≡ l.out ++ items_text l.later (event_items (drop l.event-index l.events))
