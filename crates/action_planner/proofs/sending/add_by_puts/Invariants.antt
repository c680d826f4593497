-- with the intents that are left, the rows become those of all
use Rattle.std.proofs.Common.{◌≡◌, drop}
use Rattle.action_planner.specs.Sending.{add_by_puts}
use Rattle.action_planner.proofs.sending.add_by_puts.Given as goal

abbrev pub invariant-loop-p : goal.invariant-loop-p
invariant-loop-p l = add_by_puts l.zones.entries l.board.rows l.t (drop l.p-index l.ps) ≡ add_by_puts l.initial.zones.entries l.board.rows l.t l.ps
