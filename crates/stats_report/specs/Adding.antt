-- Sums over lists, and sums kept by a key.
use Rattle.std.specs.Prelude.{ℕ, ◌+◌, ◌-◌, Bool, List, [], ◌∷◌, if◌then◌else◌, unwrap_or}
use Rattle.std.specs.BTreeMap.{insert_entry, is_at}
use Rattle.std.specs.BTreeSet.{insert_key}
use Rattle.std.specs.Map.{lookup}
use Rattle.std.specs.declared.cmp.Ordering.{Ordering}
use Rattle.hazard_types.specs.Orders.{by_hazard, by_event}
use Rattle.hazard_types.specs.Places.{Place, by_place}
use Rattle.hazard_types.specs.declared.hazard.Event.{Event}
use Rattle.hazard_types.specs.declared.hazard.Hazard.{Hazard}
use Rattle.product_decoder.specs.declared.types.Opening.{Opening}
use Rattle.stats_report.specs.Spots.{Counted}

-- the sum of the amounts of those that pass
abbrev pub sum_where : {A : Type 0} → (A → Bool) → (A → ℕ) → List A → ℕ
sum_where test amount [] = 0
sum_where test amount (x ∷ xs) = (if test x then amount x else 0) + sum_where test amount xs

-- how many pass
abbrev pub count_where : {A : Type 0} → (A → Bool) → List A → ℕ
count_where test xs = sum_where test (λ x. 1) xs

-- the sum at a key, 0 where there is none
abbrev pub sum_at : {K : Type 0} → (K → K → Ordering) → List (K × ℕ) → K → ℕ
sum_at cmp es k = unwrap_or (lookup (is_at (cmp k)) es) 0

-- an amount more at a key
abbrev pub with_amount : {K : Type 0} → (K → K → Ordering) → List (K × ℕ) → K → ℕ → List (K × ℕ)
with_amount cmp es k n = insert_entry cmp es k (sum_at cmp es k + n)

-- Openings.

-- from the issue of the product that opened it to the begin
abbrev pub lead_of : Opening → ℕ
lead_of o = o.period.begin - o.issue

-- Rows.

abbrev pub hazards_with : List Hazard → Counted → List Hazard
hazards_with hs c = insert_key by_hazard hs c.row.event.hazard

abbrev pub zones_with : List Place → Counted → List Place
zones_with zs c = insert_key by_place zs c.row.zone

abbrev pub events_with : List Event → Counted → List Event
events_with es c = insert_key by_event es c.row.event

abbrev pub with_event : List (Hazard × ℕ) → Event → List (Hazard × ℕ)
with_event es e = with_amount by_hazard es e.hazard 1
