-- A row at its seat, found from the front or by halves.
use Rattle.std.proofs.Common.{◌≡◌, ◌≢◌, ◌∙◌, List, [], ◌∷◌, Ordering, Less, Equal, Greater, refl, sym, ap}
use Rattle.std.specs.List.Sorted.{IsStrictlySortedBy}
use Rattle.std.specs.Ordering.{ordering_reverse}
use Rattle.hazard_types.specs.declared.line.Row.{Row}
use Rattle.event_life.specs.Products.{by_key, placed, put}
use Rattle.event_life.proofs.Keys.{by_key-total}
use Rattle.hazard_board.specs.Seats.{placed_at, put_at}
use Rattle.hazard_board.proofs.Runs.{Rises, rises}

key_rises : (a b : Row) → by_key a b ≡ Less → by_key a b ≢ Greater
key_rises a b less g = cc

pub rows_rise : (row : Row) (rows : List Row) → IsStrictlySortedBy by_key rows → Rises (λ r. by_key r row) rows
rows_rise row rows up = rises by_key-total by_key (λ r. r) key_rises row rows up

placed_alike : (o : Ordering) (row r : Row) (rows behind : List Row) → placed_at o row r rows behind ≡ placed (ordering_reverse o) row r rows behind
placed_alike Less row r rows behind = refl
placed_alike Equal row r rows behind = refl
placed_alike Greater row r rows behind = refl

-- a row is put by halves where it is put from the front
pub put_alike : (row : Row) (rows : List Row) → put_at (λ r. by_key r row) row rows ≡ put row rows
put_alike row [] = refl
put_alike row (r ∷ rows) =
    placed_alike (by_key r row) row r rows (put_at (λ r. by_key r row) row rows)
    ∙ ap (λ (o : Ordering). placed o row r rows (put_at (λ r. by_key r row) row rows)) (sym (by_key-total.antisymm row r))
    ∙ ap (λ (behind : List Row). placed (by_key row r) row r rows behind) (put_alike row rows)
