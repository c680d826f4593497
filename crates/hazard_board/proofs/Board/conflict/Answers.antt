-- The first clash of rows in order is the least.
use Rattle.std.proofs.Common.{ap}
use Rattle.hazard_board.specs.Board.{Posted}
use Rattle.hazard_board.proofs.ClashLemmas.{least_taken, taken_in_order}
use Rattle.hazard_board.proofs.Board.conflict.Goals as goal

pub returns-clause-value : goal.returns-clause-value
returns-clause-value c = least_taken c.args.t _ _ _ _ c.clash_anywhere.result (ap (λ (p : Posted). p.rows) c.self.view_is) c.as_slice.ensures c.clash_anywhere.ensures

pub returns-clause-order : goal.returns-clause-order
returns-clause-order c = taken_in_order c.args.t _ _ c.args.lines.now (ap (λ (p : Posted). p.rows) c.self.view_is) c.self.invariant.0
