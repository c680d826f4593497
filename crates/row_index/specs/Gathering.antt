-- The live rows of events in the zones that a product's UPG lines speak of.
use Rattle.std.specs.Prelude.{◌≡◌, ◌==◌, ◌&&◌, ◌++◌, ◌∷◌, ℕ, Bool, true, false, List, [], if◌then◌else◌, nat_le, option_map, Option, Some, None}
use Rattle.std.specs.BTreeMap.{is_at}
use Rattle.std.specs.List.{list_any}
use Rattle.std.specs.List.Sorted.{IsStrictlySortedBy}
use Rattle.hazard_types.specs.Orders.{by_event}
use Rattle.hazard_types.specs.Places.{Place, by_place}
use Rattle.hazard_types.specs.Same.{same_event}
use Rattle.hazard_types.specs.declared.codes.Family.{Family}
use Rattle.hazard_types.specs.contracts.codes.FamilyPartialEq.TheImpl as family
use Rattle.hazard_types.specs.declared.hazard.Event.{Event}
use Rattle.hazard_types.specs.declared.line.Line.{Line}
use Rattle.hazard_types.specs.declared.line.Row.{Row}
use Rattle.event_life.specs.Periods.{is_live}
use Rattle.event_life.specs.Products.{by_key, put, row_at}
use Rattle.row_index.specs.Reaching.{rank_of}
use Rattle.row_index.specs.Seating.{upgrades}

abbrev pub zone_said : Line → Place
zone_said line = line.zone

abbrev pub rank_of_line : Line → Option (Family × ℕ)
rank_of_line line = rank_of line.event

abbrev pub same_rank : Option (Family × ℕ) → Option (Family × ℕ) → Bool
same_rank None None = true
same_rank None (Some g) = false
same_rank (Some f) None = false
same_rank (Some f) (Some g) = family.eq-value.it f.0 g.0 && (f.1 == g.1)

-- one rank more, unless it is among them
abbrev pub with_rank : Option (Family × ℕ) → List (Option (Family × ℕ)) → List (Option (Family × ℕ))
with_rank rank ranks = if list_any (λ r. same_rank r rank) ranks then ranks else ranks ++ rank ∷ []

abbrev pub has_zone : List Place → Place → Bool
has_zone zones z = list_any (is_at (by_place z)) zones

-- Of a minute and the begin of a row of a UPG line the later: a higher row that is live and overlaps it ends behind both.

abbrev pub or_later : ℕ → ℕ → ℕ
or_later t begin = if nat_le t begin then begin else t

abbrev pub needed : List Row → ℕ → Line → Option ℕ
needed rows t line = if upgrades line then option_map (λ (own : Row). or_later t own.period.begin) (row_at rows line.event line.zone) else None

-- the lesser of two, as far as they are there
abbrev pub lesser : Option ℕ → Option ℕ → Option ℕ
lesser None o = o
lesser (Some a) None = Some a
lesser (Some a) (Some b) = Some (if nat_le a b then a else b)

-- the least of what was found and of what each line needs
abbrev pub least_of : List Row → ℕ → Option ℕ → List Line → Option ℕ
least_of rows t found [] = found
least_of rows t found (line ∷ lines) = least_of rows t (lesser found (needed rows t line)) lines

-- there is a row, and it is live
abbrev pub lives : ℕ → Option Row → Bool
lives t None = false
lives t (Some r) = is_live t r

-- the rows with one more, if there is one and it is live
abbrev pub with_row : ℕ → Option Row → List Row → List Row
with_row t None rows = rows
with_row t (Some r) rows = if is_live t r then put r rows else rows

-- rows in order, with the live rows of an event in such zones over them
pub record IsLive (t : ℕ) (e : Event) (inside : Place → Bool) (part old new : List Row) : Type 0 where
  pub in_order : IsStrictlySortedBy by_key old → IsStrictlySortedBy by_key new
  pub other : (d : Event) (z : Place) → same_event e d ≡ false → row_at new d z ≡ row_at old d z
  pub own : (z : Place) → row_at new e z ≡ (if inside z && lives t (row_at part e z) then row_at part e z else row_at old e z)

-- rows in order: the live ones of these events in these zones
pub record AreGathered (rows : List Row) (t : ℕ) (zones : List Place) (events : List Event) (higher : List Row) : Type 0 where
  pub in_order : IsStrictlySortedBy by_key [] → IsStrictlySortedBy by_key higher
  pub found : (d : Event) (z : Place) → row_at higher d z ≡ (if list_any (is_at (by_event d)) events && has_zone zones z && lives t (row_at rows d z) then row_at rows d z else None)
