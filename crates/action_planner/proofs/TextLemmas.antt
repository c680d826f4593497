-- Events in order, each once.
use Rattle.std.proofs.Common.{◌≡◌, List, [], ◌∷◌, Ordering, Less, Equal, Greater, refl, ap}
use Rattle.std.specs.BTreeSet.{insert_key}
use Rattle.std.specs.Ordering.{match_ordering}
use Rattle.hazard_types.specs.Orders.{by_event}
use Rattle.hazard_types.specs.declared.hazard.Event.{Event}
use Rattle.event_life.specs.Openings.{add_event, event_placed}

placed_key : (o : Ordering) (e d : Event) (events behind behind' : List Event) → behind ≡ behind' →
    match_ordering o (e ∷ d ∷ events) (d ∷ events) (d ∷ behind) ≡ event_placed o e d events behind'
placed_key Less e d events behind behind' same = refl
placed_key Equal e d events behind behind' same = refl
placed_key Greater e d events behind behind' same = ap (λ (rest : List Event). d ∷ rest) same

pub key_added : (e : Event) (events : List Event) → insert_key by_event events e ≡ add_event e events
key_added e [] = refl
key_added e (d ∷ events) = placed_key (by_event e d) e d events (insert_key by_event events e) (add_event e events) (key_added e events)
