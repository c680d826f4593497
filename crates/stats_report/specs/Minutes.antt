-- The minutes in which an event is in effect in a zone.
use Rattle.std.specs.Prelude.{◌&&◌, not, ℕ, zero, suc, ◌+◌, ◌-◌, Bool, false, nat_le, min, max, List, [], ◌∷◌, if◌then◌else◌, Option, Some, None}
use Rattle.hazard_types.specs.Places.{Place}
use Rattle.hazard_types.specs.declared.hazard.Event.{Event}
use Rattle.hazard_types.specs.declared.line.Row.{Row}
use Rattle.hazard_types.specs.declared.period.End.{End}
use Rattle.hazard_types.specs.declared.period.End.TheVariants.{At, Ufn}
use Rattle.event_life.specs.Periods.{ends_after}
use Rattle.event_life.specs.Products.{Product, row_at, rows_of}

-- the greatest issue minute of products, 0 of none
abbrev pub greatest : List Product → ℕ
greatest [] = 0
greatest (p ∷ products) = max p.issue (greatest products)

-- the products that govern a minute: the longest front of them of which no issue minute is after it
abbrev pub governing : ℕ → List Product → List Product
governing m [] = []
governing m (p ∷ products) = if nat_le p.issue m then p ∷ governing m products else []

-- the row has not ended, its begin is at most the minute, and its end is after it
abbrev pub has_effect : Option Row → ℕ → Bool
has_effect None m = false
has_effect (Some row) m = not row.ended && nat_le row.period.begin m && ends_after row.period.end m

-- so has the row of the event in the zone after the products that govern the minute
abbrev pub in_effect : List Product → Event → Place → ℕ → Bool
in_effect products e z m = has_effect (row_at (rows_of (governing m products)) e z) m

abbrev pub one_if : Bool → ℕ
one_if b = if b then 1 else 0

-- how many of the minutes before this one pass
abbrev pub count_before : ℕ → (ℕ → Bool) → ℕ
count_before zero test = 0
count_before (suc m) test = one_if (test m) + count_before m test

-- the minutes before the stamp in which the event is in effect in the zone
unfoldable pub minutes_of : ℕ → List Product → Event → Place → ℕ
minutes_of stamp products e z = count_before stamp (in_effect products e z)

-- The same minutes as lengths.

-- the stamp, or the end where it comes first
abbrev pub cut_at : ℕ → End → ℕ
cut_at stamp (At m) = min stamp m
cut_at stamp Ufn = stamp

-- how many minutes from this one on and before the stamp a row has effect
abbrev pub minutes_left : ℕ → ℕ → Option Row → ℕ
minutes_left stamp from None = 0
minutes_left stamp from (Some row) = if row.ended then 0 else cut_at stamp row.period.end - max from row.period.begin
