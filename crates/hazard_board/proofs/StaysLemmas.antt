-- A line that leaves the row that it meets as it was, or puts another in its place.
use Rattle.std.proofs.Common.{◌≡◌, ◌∙◌, ℕ, List, Bool, true, false, Option, Some, None, refl, sym, ap, cond, is_some}
use Rattle.std.specs.List.Sorted.{IsStrictlySortedBy}
use Rattle.hazard_types.specs.Places.{Place}
use Rattle.hazard_types.specs.declared.hazard.Event.{Event}
use Rattle.hazard_types.specs.declared.line.Line.{Line}
use Rattle.hazard_types.specs.declared.line.Row.{Row}
use Rattle.event_life.specs.Products.{by_key, put, row_at}
use Rattle.event_life.specs.declared.life.Life.{Life}
use Rattle.event_life.proofs.Puts.{at_key, at_key-parts, row_at-put}
use Rattle.hazard_board.specs.NewClashes.{is_same, stays}
use Rattle.hazard_board.specs.Spots.{AreSpots}
use Rattle.hazard_board.specs.Taken.{row_after_on_life, add_row_if_some}
use Rattle.hazard_board.specs.declared.spots.Spot.{Spot}
use Rattle.hazard_board.proofs.NewClashLemmas.{put_same}
use Rattle.hazard_board.proofs.PeriodLemmas.{left_key}
use Rattle.hazard_board.proofs.Turns.{put_held}

-- rows stay where a line leaves the row that it meets
pub stays_put : (rows : List Row) → IsStrictlySortedBy by_key rows → (e : Event) (z : Place) (old o : Option Row) → old ≡ row_at rows e z → stays old o ≡ true → add_row_if_some o rows ≡ rows
stays_put rows up e z old None is h = refl
stays_put rows up e z old (Some row) is h = put_same rows up e z row (ap (λ (x : Option Row). is_same x row) (sym is) ∙ h)

some_still : (b : Bool) (row : Row) (o : Option Row) → (b ≡ true → is_some o ≡ true) → is_some (cond b (Some row) o) ≡ is_some o
some_still true row o h = sym (h refl)
some_still false row o h = refl

-- a row that takes the place of another has its spot
spots_there : (row : Row) (rows : List Row) (spots : List Spot) → IsStrictlySortedBy by_key rows → is_some (row_at rows row.event row.zone) ≡ true → AreSpots rows spots → AreSpots (put row rows) spots
spots_there row rows spots up there are = record {
  order = are.order;
  told = λ e z.
      are.told e z
      ∙ sym (some_still (at_key e z row) row (row_at rows e z) (λ own. let key = at_key-parts e z row own in rw (sym key.0, sym key.1) there))
      ∙ sym (ap is_some (row_at-put row rows e z));
  count = are.count ∙ sym (put_held row rows up (λ none. let never : is_some (row_at rows row.event row.zone) ≡ false = ap is_some none in cc));
}

pub spots_held : (rows : List Row) (spots : List Spot) (line : Line) (life : Option Life) (t : ℕ) (old o : Option Row) → IsStrictlySortedBy by_key rows → AreSpots rows spots →
    old ≡ row_at rows line.event line.zone → is_some old ≡ true → row_after_on_life life t line ≡ o → AreSpots (add_row_if_some o rows) spots
spots_held rows spots line life t old None up are is some left = are
spots_held rows spots line life t old (Some row) up are is some left =
    let key = left_key life t line row left in
    let there : is_some (row_at rows row.event row.zone) ≡ true = rw (key.0, key.1) (ap is_some (sym is) ∙ some) in
    spots_there row rows spots up there are
