-- The rows grow with each line, so that memory for what all lines leave is memory for each.
use Rattle.std.proofs.Common.{refl, arith}
use Rattle.hazard_board.specs.Taken.{row_left}
use Rattle.hazard_board.proofs.SpotLemmas.{turn_next}
use Rattle.hazard_board.proofs.Turns.{grown_at, add_row_if_some-sorted}
use Rattle.hazard_board.proofs.lines.apply_lines_to_rows.Goals as goal

pub apply_line_to_rows-requires-clause-room : goal.apply_line_to_rows-requires-clause-room
apply_line_to_rows-requires-clause-room c =
    let long = grown_at c.args.t c.args.rows.now.rows c.loop-line.rows.rows c.args.lines.now c.loop-line.line-index c.line-item.result c.loop-line-test.true c.line-item.is c.loop-line.invariant.turns in
    omega (arith, long, c.requires.room, c.loop-line.invariant.spare)

pub apply_line_to_rows-requires-clause-places : goal.apply_line_to_rows-requires-clause-places
apply_line_to_rows-requires-clause-places c =
    let long = grown_at c.args.t c.args.rows.now.rows c.loop-line.rows.rows c.args.lines.now c.loop-line.line-index c.line-item.result c.loop-line-test.true c.line-item.is c.loop-line.invariant.turns in
    omega (arith, long, c.requires.places, c.loop-line.invariant.capacity)

pub apply_line_to_rows-requires-clause-counts : goal.apply_line_to_rows-requires-clause-counts
apply_line_to_rows-requires-clause-counts c =
    let long = grown_at c.args.t c.args.rows.now.rows c.loop-line.rows.rows c.args.lines.now c.loop-line.line-index c.line-item.result c.loop-line-test.true c.line-item.is c.loop-line.invariant.turns in
    omega (arith, long, c.requires.counts, c.loop-line.invariant.counts)

pub loop-line-preserved : goal.loop-line-preserved
loop-line-preserved c =
    let now = c.loop-line.rows.rows in
    let left = row_left now c.args.t c.line-item.result in
    record {
      turns = turn_next c.args.t now c.apply_line_to_rows.new.rows.rows _ c.args.lines.now c.loop-line.line-index c.line-item.result left c.loop-line-test.true c.line-item.is refl c.apply_line_to_rows.ensures.rows c.loop-line.invariant.turns;
      order = rw (c.apply_line_to_rows.ensures.rows) (add_row_if_some-sorted left now c.loop-line.invariant.order);
      spots = c.apply_line_to_rows.ensures.spots;
      spare = omega (arith, c.apply_line_to_rows.ensures.spare, c.loop-line.invariant.spare);
      capacity = omega (arith, c.apply_line_to_rows.ensures.capacity, c.loop-line.invariant.capacity);
      periods = c.apply_line_to_rows.ensures.periods;
      counts = omega (arith, c.apply_line_to_rows.ensures.counts, c.loop-line.invariant.counts);
    }
