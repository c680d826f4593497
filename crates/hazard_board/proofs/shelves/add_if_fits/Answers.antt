-- A row has room where there is more than the rows take, and where it takes the place of another.
use Rattle.std.proofs.Common.{◌≡◌, ◌≢◌, ◌∙◌, true, List, Option, Some, None, is_some, sym, ap, arith}
use Rattle.hazard_types.specs.declared.line.Row.{Row}
use Rattle.event_life.specs.Products.{row_at}
use Rattle.hazard_board.proofs.Turns.{put_longer, put_held}
use Rattle.hazard_board.proofs.shelves.add_if_fits.Goals as goal
use Rattle.hazard_board.proofs.shelves.add_if_fits.Goals.{then-len-capacity, else-len-capacity}

some_there : (o : Option Row) → is_some o ≡ true → o ≢ None
some_there None h g = cc
some_there (Some r) h g = cc

pub add_within-requires-clause-room : goal.add_within-requires-clause-room
add_within-requires-clause-room c =
    let rows = c.args.rows.now in
    let row = c.args.row.now in
    elim c.if-len-capacity.branch [
      | then-len-capacity w ↦
          let long = (put_longer row rows.items).1 in
          omega (arith, long, w.if-len-capacity.true, c.len.ensures, c.capacity.ensures, rows.ok.0, rows.ok.1)
      | else-len-capacity w ↦
          let found : is_some (row_at rows.items row.event row.zone) ≡ true =
          ap is_some (ap (λ (some : List Row). row_at some row.event row.zone) (sym w.deref.ensures.value) ∙ sym w.row_at.ensures) ∙ sym w.is_some.ensures ∙ sym w.value-is ∙ c.if-is_some.true in
          let same = put_held row rows.items c.requires (some_there (row_at rows.items row.event row.zone) found) in
          omega (arith, same, rows.ok.0, rows.ok.1)
    ]
