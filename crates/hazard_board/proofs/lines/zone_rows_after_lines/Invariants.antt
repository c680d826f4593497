-- those that are left to put leave in the zone the same live rows as all of them do, and the rows stand in order
use Rattle.std.proofs.Common.{◌≡◌, drop}
use Rattle.std.specs.List.Sorted.{IsStrictlySortedBy}
use Rattle.event_life.specs.Products.{by_key}
use Rattle.event_life.specs.Shown.{shown_at}
use Rattle.hazard_board.specs.Board.{slice_of}
use Rattle.hazard_board.specs.NewClashes.{put_lefts}
use Rattle.hazard_board.proofs.lines.zone_rows_after_lines.Given as goal

abbrev pub invariant-loop-one : goal.invariant-loop-one
invariant-loop-one l = (shown_at l.fn.t (put_lefts l.after.items (drop l.one-index l.left)) ≡ shown_at l.fn.t (put_lefts (slice_of l.z l.rows.rows) l.left)) × IsStrictlySortedBy by_key l.after.items
