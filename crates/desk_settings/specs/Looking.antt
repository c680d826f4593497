-- What is looked up in settings.
use Rattle.std.specs.Prelude.{ℕ, List, [], ◌∷◌, Option, Some, None, if◌then◌else◌}
use Rattle.std.specs.Ordering.{is_eq}
use Rattle.hazard_types.specs.Places.{Place, by_place}
use Rattle.hazard_types.specs.declared.codes.Category.{Category}
use Rattle.hazard_types.specs.declared.codes.Category.TheVariants.{Wsw, Npw, Rfw, Cfw, Mww, Ffa, Flw, Fls}

-- where the heading of a category stands
abbrev pub category_place : Category → ℕ
category_place Wsw = 0
category_place Npw = 1
category_place Rfw = 2
category_place Cfw = 3
category_place Mww = 4
category_place Ffa = 5
category_place Flw = 6
category_place Fls = 7

-- the name beside a zone, where it has one
abbrev pub name_for_zone : List (Place × List ℕ) → Place → Option (List ℕ)
name_for_zone [] zone = None
name_for_zone (pair ∷ pairs) zone = if is_eq (by_place pair.0 zone) then Some pair.1 else name_for_zone pairs zone
