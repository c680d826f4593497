-- Entries in a list, in order by zone.
use Rattle.std.specs.Prelude.{◌-◌, ◌&&◌, ℕ, zero, suc, Bool, true, false, not, List, [], ◌∷◌, length, slice_get, Option, Some, None}
use Rattle.std.specs.BTreeMap.{is_at}
use Rattle.std.specs.Ordering.{is_lt}
use Rattle.hazard_types.specs.Places.{Place, by_place}

module _ {V : Type 0} where
  abbrev pub is_there : Option (Place × V) → Place → Bool
  is_there None z = false
  is_there (Some e) z = is_at (by_place z) e.0

  -- a zone stands at a place
  abbrev pub is_entry_at : List (Place × V) → ℕ → Place → Bool
  is_entry_at es place z = is_there (slice_get es place) z

  abbrev pub is_behind_last : Option (Place × V) → Place → Bool
  is_behind_last None z = true
  is_behind_last (Some last) z = is_lt (by_place last.0 z)

  -- a zone is behind the last of these
  abbrev pub comes_after_all : List (Place × V) → Place → Bool
  comes_after_all es z = is_behind_last (slice_get es (length es - 1)) z

  -- the zone is behind those before a place, and not behind the one there, if there is one
  abbrev pub is_seat : List (Place × V) → ℕ → Place → Bool
  is_seat [] zero z = true
  is_seat [] (suc i) z = false
  is_seat (e ∷ es) zero z = not (is_lt (by_place e.0 z))
  is_seat (e ∷ es) (suc i) z = is_lt (by_place e.0 z) && is_seat es i z
