-- A row that is not live clashes with none.
use Rattle.std.proofs.Common.{◌≡◌, ◌∙◌, ◌&&◌, not, ℕ, Bool, true, false, List, [], ◌∷◌, find, option_map, Some, None, cond, refl, sym, ap}
use Rattle.hazard_types.specs.declared.line.Row.{Row}
use Rattle.hazard_types.specs.Same.{same_zone, same_event}
use Rattle.event_life.specs.Higher.{are_kin}
use Rattle.event_life.specs.Periods.{is_live, overlaps}
use Rattle.hazard_board.specs.Clashes.{clash, clash_of}

barred : (front l m n o p : Bool) → l ≡ false → (front && l && m && n && o && p) ≡ false
barred true l m n o p is = cc
barred false l m n o p is = refl

dead : (t : ℕ) (a b : Row) → is_live t a ≡ false → clash t a b ≡ false
dead t a b is = barred (same_zone a.zone b.zone) (is_live t a) (is_live t b) (overlaps a.period b.period) (not (same_event a.event b.event)) (are_kin a.event.hazard b.event.hazard) is

finds_none : (t : ℕ) (a : Row) (rows : List Row) → is_live t a ≡ false → find (clash t a) rows ≡ None
finds_none t a [] is = refl
finds_none t a (b ∷ rows) is = ap (λ (c : Bool). cond c (Some b) (find (clash t a) rows)) (dead t a b is) ∙ finds_none t a rows is

pub clashes_with_none : (t : ℕ) (a : Row) (rows : List Row) → is_live t a ≡ false → None ≡ option_map (clash_of a) (find (clash t a) rows)
clashes_with_none t a rows is = sym (ap (option_map (clash_of a)) (finds_none t a rows is))
