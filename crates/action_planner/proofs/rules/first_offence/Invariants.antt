-- the intents that are left decide as all of them do
use Rattle.std.proofs.Common.{◌≡◌, drop}
use Rattle.action_planner.specs.Offences.{first_by}
use Rattle.action_planner.specs.Rules.{offence}
use Rattle.action_planner.proofs.rules.first_offence.Given as goal

abbrev pub invariant-loop-p : goal.invariant-loop-p
invariant-loop-p l = first_by (offence l.board.rows l.t l.spoken l.rule) (drop l.p-index l.p-items) ≡ first_by (offence l.board.rows l.t l.spoken l.rule) l.spoken
