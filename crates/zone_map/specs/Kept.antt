-- Entries that came in rising order, and entries that did not.
use Rattle.std.specs.Prelude.{◌≡◌, List, [], Option, Some, None, Vec}
use Rattle.std.specs.List.Sorted.{IsStrictlySortedBy}
use Rattle.std.specs.Map.{keys_of}
use Rattle.std.specs.declared.alloc.Global.{Global}
use Rattle.hazard_types.specs.Places.{Place, by_place}

module _ {V : Type 0} where
  -- the entries that rose, or those of the tree once one did not
  abbrev pub kept_in : Option (Vec (Place × V) Global) → List (Place × V) → List (Place × V)
  kept_in None others = others
  kept_in (Some rising) others = rising.items

  -- they are in order, and none is in the tree while they rise
  abbrev pub AreKept : Option (Vec (Place × V) Global) → List (Place × V) → Type 0
  AreKept None others = IsStrictlySortedBy by_place (keys_of others)
  AreKept (Some rising) others = IsStrictlySortedBy by_place (keys_of rising.items) × (others ≡ [])
