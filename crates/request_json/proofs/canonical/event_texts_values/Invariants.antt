use Rattle.std.proofs.Common.{◌≡◌, map, take}
use Rattle.serde_json.specs.View.{view}
use Rattle.request_json.specs.Canonical.{event_texts_data}
use Rattle.request_json.proofs.canonical.event_texts_values.Given as goal

-- those so far are written
abbrev pub invariant-loop-texts : goal.invariant-loop-texts
invariant-loop-texts l = map view l.values.items ≡ map event_texts_data (take l.texts-index l.list)
