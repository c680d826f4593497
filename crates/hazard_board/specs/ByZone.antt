-- Lines by their zones.
use Rattle.std.specs.Prelude.{◌++◌, List, [], ◌∷◌, filter, unwrap_or}
use Rattle.std.specs.BTreeMap.{insert_entry, is_at}
use Rattle.std.specs.Map.{lookup}
use Rattle.hazard_types.specs.Places.{Place, by_place}
use Rattle.hazard_types.specs.Same.{same_zone}
use Rattle.hazard_types.specs.declared.line.Line.{Line}

-- the lines of a zone
abbrev pub lines_of : Place → List Line → List Line
lines_of z lines = filter (λ (line : Line). same_zone line.zone z) lines

abbrev pub LinesByZone : Type 0
LinesByZone = List (Place × List Line)

-- the items that are held for a zone
abbrev pub items_at : {X : Type 0} → List (Place × List X) → Place → List X
items_at zones z = unwrap_or (lookup (is_at (by_place z)) zones) []

abbrev pub add_item : {X : Type 0} → (X → Place) → List (Place × List X) → X → List (Place × List X)
add_item zone zones x = insert_entry by_place zones (zone x) (items_at zones (zone x) ++ x ∷ [])

-- each item in its zone, behind those that are there
abbrev pub add_items : {X : Type 0} → (X → Place) → List (Place × List X) → List X → List (Place × List X)
add_items zone zones [] = zones
add_items zone zones (x ∷ xs) = add_items zone (add_item zone zones x) xs

abbrev pub lines_at : LinesByZone → Place → List Line
lines_at zones z = items_at zones z

abbrev pub add_to_zones : LinesByZone → List Line → LinesByZone
add_to_zones zones lines = add_items (λ (l : Line). l.zone) zones lines
