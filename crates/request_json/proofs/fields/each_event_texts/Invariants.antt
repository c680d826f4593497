use Rattle.std.proofs.Common.{◌≡◌, ◌++◌, List, drop, option_map}
use Rattle.office_types.specs.declared.request.EventTexts.{EventTexts}
use Rattle.serde_json.specs.View.{items_view}
use Rattle.request_json.specs.Fields.{each_event_texts}
use Rattle.request_json.proofs.fields.each_event_texts.Given as goal

-- the texts so far, and those of what is left
abbrev pub invariant-loop-value : goal.invariant-loop-value
invariant-loop-value l =
    each_event_texts (items_view l.values) ≡ option_map (λ (ts : List EventTexts). l.list ++ ts) (each_event_texts (items_view (drop l.value-index l.values)))
