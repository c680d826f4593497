-- Zones that came in rising order, and zones that did not.
use Rattle.std.specs.Prelude.{◌≡◌, ◌-◌, Bool, true, List, [], length, slice_get, Option, Some, None}
use Rattle.std.specs.List.Sorted.{IsStrictlySortedBy}
use Rattle.std.specs.Ordering.{is_lt}
use Rattle.hazard_types.specs.Places.{Place, by_place}

abbrev pub is_behind_last : Option Place → Place → Bool
is_behind_last None z = true
is_behind_last (Some last) z = is_lt (by_place last z)

-- whether a zone is behind the last of these
abbrev pub comes_after_all : List Place → Place → Bool
comes_after_all zones z = is_behind_last (slice_get zones (length zones - 1)) z

-- the zones that rose, or those of the set once one did not
abbrev pub kept_in : Option (List Place) → List Place → List Place
kept_in None mixed = mixed
kept_in (Some rising) mixed = rising

-- zones that rose are in order, and none is in the set yet
abbrev pub IsKept : Option (List Place) → List Place → Type 0
IsKept None mixed = Unit {0}
IsKept (Some rising) mixed = IsStrictlySortedBy by_place rising × (mixed ≡ [])
