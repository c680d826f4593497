-- The same rows of a zone are live among those that may be live.
use Rattle.std.proofs.Common.{◌∙◌, ap}
use Rattle.event_life.specs.Shown.{shown_at}
use Rattle.hazard_board.proofs.LiveLemmas.{alike_in_zone}
use Rattle.hazard_board.proofs.SliceLemmas.{slice_in_order}
use Rattle.hazard_board.proofs.board_rows.BoardRows.rows_in_zone_with_live.Goals as goal

pub returns-clause-alike : goal.returns-clause-alike
returns-clause-alike c =
    ap (shown_at c.args.t) c.slice_of.ensures.rows
    ∙ alike_in_zone c.args.t c.args.z.now c.source.result.now.rows c.args.self.now.rows c.source.ensures.alike

pub returns-clause-order : goal.returns-clause-order
returns-clause-order c = rw (c.slice_of.ensures.rows) (slice_in_order c.args.z.now c.source.result.now.rows c.source.ensures.order)
