-- the rules that are left decide as all of them do
use Rattle.std.proofs.Common.{◌≡◌, drop}
use Rattle.action_planner.specs.Rules.{first_against}
use Rattle.action_planner.proofs.rules.first_against.Given as goal

abbrev pub invariant-loop-rule : goal.invariant-loop-rule
invariant-loop-rule l = first_against l.board.rows l.t l.spoken (drop l.rule-index l.rules) ≡ first_against l.board.rows l.t l.spoken l.rules
