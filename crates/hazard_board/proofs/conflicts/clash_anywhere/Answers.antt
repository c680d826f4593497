-- The rows after the lines stand in order, and their first clash is that of all rows.
use Rattle.std.proofs.Common.{◌∙◌, ap}
use Rattle.hazard_board.specs.Clashes.{first_clash}
use Rattle.hazard_board.specs.Taken.{rows_taken}
use Rattle.hazard_board.proofs.LiveLemmas.{alike_first}
use Rattle.hazard_board.proofs.conflicts.clash_anywhere.Goals as goal

pub first_clash-requires : goal.first_clash-requires
first_clash-requires c = rw (c.deref.ensures.value) c.in_ok-after.ensures.order

pub returns : goal.returns
returns c =
    c.first_clash.ensures
    ∙ ap (first_clash c.args.t) c.deref.ensures.value
    ∙ alike_first c.args.t c.in_ok-after.after.items (rows_taken c.args.rows.now.rows c.args.t c.args.lines.now) c.in_ok-after.ensures.live
