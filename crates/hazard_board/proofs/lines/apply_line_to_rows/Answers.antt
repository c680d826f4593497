-- The spots and the periods grow as the rows do.
use Rattle.std.proofs.Common.{◌≡◌, ◌∙◌, Option, length, ap, arith, option_map, sym}
use Rattle.hazard_types.specs.declared.line.Row.{Row}
use Rattle.event_life.specs.Products.{life_of}
use Rattle.event_life.specs.declared.life.Life.{Life}
use Rattle.hazard_board.specs.Taken.{row_after_on_life, row_left, add_row_if_some}
use Rattle.hazard_board.proofs.SpotLemmas.{spots_with_if}
use Rattle.hazard_board.proofs.StaysLemmas.{stays_put, spots_held}
use Rattle.hazard_board.proofs.PeriodLemmas.{some_left, room_left, counted_left_by}
use Rattle.hazard_board.proofs.lines.apply_line_to_rows.Goals as goal
use Rattle.hazard_board.proofs.lines.apply_line_to_rows.Goals.{After-row_after_on_life-row}

left : (c : After-row_after_on_life-row) → c.row_after_on_life-row.result ≡ row_left c.args.rows.now.rows c.args.t c.args.line.now
left c = c.row_after_on_life-row.ensures ∙ ap (λ (life : Option Life). row_after_on_life life c.args.t c.args.line.now) (c.life_of.ensures ∙ ap (option_map life_of) c.row_at-old.ensures)

long : (c : After-row_after_on_life-row) → length (add_row_if_some c.row_after_on_life-row.result c.args.rows.now.rows) ≡ length (add_row_if_some (row_left c.args.rows.now.rows c.args.t c.args.line.now) c.args.rows.now.rows)
long c = ap (λ (o : Option Row). length (add_row_if_some o c.args.rows.now.rows)) (left c)

pub update_counts_if_put-requires-clause-some : goal.update_counts_if_put-requires-clause-some
update_counts_if_put-requires-clause-some c q = some_left c.args.rows.now.rows c.args.periods.now.items c.args.line.now c.row_at-old.result c.requires.periods c.row_at-old.ensures q

pub update_counts_if_put-requires-clause-room : goal.update_counts_if_put-requires-clause-room
update_counts_if_put-requires-clause-room c =
    let same = long (goal.at.update_counts_if_put-requires-clause-room c).After-row_after_on_life-row in
    room_left c.args.rows.now.rows c.args.periods.now.items c.args.line.now c.args.t _ c.row_at-old.result c.requires.periods c.requires.order c.row_at-old.ensures c.row_after_on_life-row.result _ (sym c.row_after_on_life-row.ensures) (omega (arith, same, c.requires.counts))

pub set_board_row_if_some-requires : goal.set_board_row_if_some-requires
set_board_row_if_some-requires c = let same = long (goal.at.set_board_row_if_some-requires c).After-row_after_on_life-row in omega (arith, same, c.requires.room)

pub returns-then-stays-clause-rows : goal.returns-then-stays-clause-rows
returns-then-stays-clause-rows c =
    sym (ap (λ (o : Option Row). add_row_if_some o c.args.rows.now.rows) (sym (left (goal.at.returns-then-stays-clause-rows c).After-row_after_on_life-row))
    ∙ stays_put c.args.rows.now.rows c.requires.order c.args.line.now.event c.args.line.now.zone c.row_at-old.result c.row_after_on_life-row.result c.row_at-old.ensures (sym c.stays.ensures ∙ c.if-stays.true))

pub returns-then-is_some-clause-rows : goal.returns-then-is_some-clause-rows
returns-then-is_some-clause-rows c = c.set_board_row_if_some.ensures.rows ∙ ap (λ (o : Option Row). add_row_if_some o c.args.rows.now.rows) (left (goal.at.returns-then-is_some-clause-rows c).After-row_after_on_life-row)

pub returns-then-is_some-clause-spots : goal.returns-then-is_some-clause-spots
returns-then-is_some-clause-spots c =
    rw (c.set_board_row_if_some.ensures.rows)
    (spots_held c.args.rows.now.rows c.args.spots.now.items c.args.line.now _ c.args.t c.row_at-old.result c.row_after_on_life-row.result c.requires.order c.requires.spots c.row_at-old.ensures (sym c.is_some.ensures ∙ c.if-is_some.true) (sym c.row_after_on_life-row.ensures))

pub returns-then-is_some-clause-periods : goal.returns-then-is_some-clause-periods
returns-then-is_some-clause-periods c =
    rw (c.set_board_row_if_some.ensures.rows)
    (counted_left_by c.args.rows.now.rows c.args.periods.now.items c.args.line.now c.args.t _ c.row_at-old.result c.requires.periods c.requires.order c.row_at-old.ensures c.row_after_on_life-row.result c.update_counts_if_put.new.periods.items (sym c.row_after_on_life-row.ensures) c.update_counts_if_put.ensures.stand c.update_counts_if_put.ensures.told)

pub unreachable-requires : goal.unreachable-requires
unreachable-requires c =
    let are = spots_with_if c.row_after_on_life-row.result c.args.rows.now.rows c.args.spots.now.items c.requires.order c.requires.spots in
    let same = long (goal.at.unreachable-requires c).After-row_after_on_life-row in
    omega (arith, are.count, same, c.requires.places, c.in-Err.ensures.err)

pub returns-clause-rows : goal.returns-clause-rows
returns-clause-rows c = c.set_board_row_if_some.ensures.rows ∙ ap (λ (o : Option Row). add_row_if_some o c.args.rows.now.rows) (left (goal.at.returns-clause-rows c).After-row_after_on_life-row)

pub returns-clause-spots : goal.returns-clause-spots
returns-clause-spots c = rw (c.set_board_row_if_some.ensures.rows, c.in-Ok.ensures.ok) (spots_with_if c.row_after_on_life-row.result c.args.rows.now.rows c.args.spots.now.items c.requires.order c.requires.spots)

pub returns-clause-periods : goal.returns-clause-periods
returns-clause-periods c =
    rw (c.set_board_row_if_some.ensures.rows)
    (counted_left_by c.args.rows.now.rows c.args.periods.now.items c.args.line.now c.args.t _ c.row_at-old.result c.requires.periods c.requires.order c.row_at-old.ensures c.row_after_on_life-row.result c.update_counts_if_put.new.periods.items (sym c.row_after_on_life-row.ensures) c.update_counts_if_put.ensures.stand c.update_counts_if_put.ensures.told)
