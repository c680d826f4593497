-- The events that a list of products opened, and the gaps in their numbers.
use Rattle.std.specs.Prelude.{◌≡◌, ◌==◌, ◌&&◌, ℕ, suc, zero, ◌+◌, Bool, List, [], ◌∷◌, ◌++◌, fold, map, filter, if◌then◌else◌}
use Rattle.std.specs.declared.cmp.Ordering.{Ordering}
use Rattle.std.specs.Ordering.{match_ordering}
use Rattle.hazard_types.specs.Orders.{by_event}
use Rattle.hazard_types.specs.Same.{same_hazard}
use Rattle.hazard_types.specs.declared.hazard.Event.{Event}
use Rattle.hazard_types.specs.declared.hazard.Hazard.{Hazard}
use Rattle.hazard_types.specs.declared.line.Line.{Line}
use Rattle.hazard_types.specs.declared.line.Row.{Row}
pub use Rattle.event_life.specs.declared.openings.Gap.{Gap}
use Rattle.event_life.specs.Lives.{judged_product}
use Rattle.event_life.specs.Products.{Product, is_new, lawful_of, rows_with}

abbrev pub event_placed : Ordering → Event → Event → List Event → List Event → List Event
event_placed o e first events behind = match_ordering o (e ∷ first ∷ events) (first ∷ events) (first ∷ behind)

-- into a list in order of events, each once
abbrev pub add_event : Event → List Event → List Event
add_event e [] = e ∷ []
add_event e (d ∷ events) = event_placed (by_event e d) e d events (add_event e events)

-- the events of the NEW lines among these, in order, each once
abbrev pub events_opened_by : List Line → List Event
events_opened_by [] = []
events_opened_by (line ∷ lines) = if is_new line.action then add_event line.event (events_opened_by lines) else events_opened_by lines

abbrev pub opened_from : List Row → List Product → List Event
opened_from rows [] = []
opened_from rows (p ∷ products) = events_opened_by (lawful_of (judged_product rows p)) ++ opened_from (rows_with rows p) products

-- the events of lawful NEW lines, product by product, and within one by event
abbrev pub opened_of : List Product → List Event
opened_of products = opened_from [] products

abbrev pub is_numbered : Hazard → ℕ → Event → Bool
is_numbered h year e = same_hazard e.hazard h && (e.year == year)

-- the numbers of a hazard and year, in the order of opening
abbrev pub numbers_of : Hazard → ℕ → List Event → List ℕ
numbers_of h year events = map (λ (e : Event). e.etn) (filter (is_numbered h year) events)

-- so many numbers from this one on
abbrev pub counted_from : ℕ → ℕ → List ℕ
counted_from n zero = []
counted_from n (suc k) = n ∷ counted_from (n + 1) k

-- for each hazard and year the numbers are 1, 2, .., k
abbrev pub IsGapless : List Event → Type 0
IsGapless events = (h : Hazard) (year : ℕ) → (k : ℕ) × (numbers_of h year events ≡ counted_from 1 k)

-- one more than the last number of the hazard and year, from 1
abbrev pub wanted_after : List Event → Event → ℕ
wanted_after earlier e = 1 + fold (λ (last n : ℕ). n) 0 (numbers_of e.hazard e.year earlier)

-- where an opened number is not the wanted one; counting goes on from the number found
abbrev pub gaps_from : List Event → List Event → List Gap
gaps_from earlier [] = []
gaps_from earlier (e ∷ events) = (if e.etn == wanted_after earlier e then [] else record { event = e; wanted = wanted_after earlier e } ∷ []) ++ gaps_from (earlier ++ e ∷ []) events

abbrev pub gaps_of : List Product → List Gap
gaps_of products = gaps_from [] (opened_of products)
