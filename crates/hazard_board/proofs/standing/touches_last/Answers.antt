-- The last line is one of them.
use Rattle.std.proofs.Common.{◌∙◌, sym}
use Rattle.hazard_board.proofs.SettleLemmas.{touched_last}
use Rattle.hazard_board.proofs.standing.touches_last.Goals as goal

pub returns : goal.returns
returns c h = touched_last c.args.e.now c.args.lines.now c.index-lines-last.result (sym c.is_empty.ensures ∙ c.if-is_empty.false) c.index-lines-last.is (sym c.touches.ensures ∙ h)
