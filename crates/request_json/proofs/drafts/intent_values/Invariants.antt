use Rattle.std.proofs.Common.{◌≡◌, map, take}
use Rattle.serde_json.specs.View.{view}
use Rattle.request_json.specs.Canonical.{intent_data}
use Rattle.request_json.proofs.drafts.intent_values.Given as goal

-- those so far are written
abbrev pub invariant-loop-intent : goal.invariant-loop-intent
invariant-loop-intent l = map view l.values.items ≡ map intent_data (take l.intent-index l.intents)
