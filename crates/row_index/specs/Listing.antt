-- Lists at keys.
use Rattle.std.specs.Prelude.{List, [], map, unwrap_or, Vec}
use Rattle.std.specs.BTreeMap.{is_at}
use Rattle.std.specs.Map.{lookup}
use Rattle.std.specs.declared.alloc.Global.{Global}
use Rattle.std.specs.declared.cmp.Ordering.{Ordering}
use Rattle.hazard_types.specs.declared.hazard.Event.{Event}

-- the lists of a map
abbrev pub lists_of : {K : Type 0} → List (K × Vec Event Global) → List (K × List Event)
lists_of es = map (λ e. (e.0, e.1.items)) es

-- the list at a key, which has no items where there is none
abbrev pub list_at : {K X : Type 0} → (K → K → Ordering) → List (K × List X) → K → List X
list_at cmp es k = unwrap_or (lookup (is_at (cmp k)) es) []
