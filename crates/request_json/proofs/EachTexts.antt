-- One event more with its texts.
use Rattle.std.proofs.Common.{◌≡◌, ◌<◌, ◌+◌, ℕ, List, [], ◌∷◌, ◌++◌, length, drop, get_or, Option, None, Some, option_map, refl, ap, sym, ◌∙◌, append_assoc}
use Rattle.std.proofs.lemmas.List.{drop_more}
use Rattle.serde_json.specs.Data.{Data, Items, item}
use Rattle.serde_json.specs.View.{view, items_view}
use Rattle.serde_json.specs.declared.value.Value.{Value}
use Rattle.office_types.specs.declared.request.EventTexts.{EventTexts}
use Rattle.request_json.specs.Fields.{event_texts_of, each_event_texts}

add_last : (done : List EventTexts) (x : EventTexts) (o : Option (List EventTexts)) → option_map (λ (ts : List EventTexts). done ++ ts) (option_map (λ ts. x ∷ ts) o) ≡ option_map (λ (ts : List EventTexts). (done ++ x ∷ []) ++ ts) o
add_last done x None = refl
add_last done x (Some ts) = ap (λ (l : List EventTexts). Some l) (sym (append_assoc done (x ∷ []) ts))

one_item : (all : Option (List EventTexts)) (d : Data) (ds rest : Items) (done now : List EventTexts) (x : EventTexts)
    → all ≡ option_map (λ (ts : List EventTexts). done ++ ts) (each_event_texts rest) → rest ≡ item d ds → event_texts_of d ≡ Some x → now ≡ done ++ x ∷ []
    → all ≡ option_map (λ (ts : List EventTexts). now ++ ts) (each_event_texts ds)
one_item all d ds rest done now x h is e more = rw more ((rw e at (rw is at h)) ∙ add_last done x (each_event_texts ds))

pub one_more : (values : List Value) (i : ℕ) (v : Value) (done now : List EventTexts) (x : EventTexts) → i < length values → v ≡ get_or values i v
    → each_event_texts (items_view values) ≡ option_map (λ (ts : List EventTexts). done ++ ts) (each_event_texts (items_view (drop i values))) → event_texts_of (view v) ≡ Some x → now ≡ done ++ x ∷ []
    → each_event_texts (items_view values) ≡ option_map (λ (ts : List EventTexts). now ++ ts) (each_event_texts (items_view (drop (i + 1) values)))
one_more values i v done now x within is h e more =
    let cut : items_view (drop i values) ≡ item (view v) (items_view (drop (i + 1) values)) = ap items_view (drop_more values i v within) ∙ ap (λ (u : Value). item (view u) (items_view (drop (i + 1) values))) (sym is) in
    one_item (each_event_texts (items_view values)) (view v) (items_view (drop (i + 1) values)) (items_view (drop i values)) done now x h cut e more
