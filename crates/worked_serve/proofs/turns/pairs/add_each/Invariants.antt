use Rattle.std.proofs.Common.{◌≡◌, ◌+◌, length, take}
use Rattle.turn_lock.specs.Passes.{KeepsRights}
use Rattle.turn_lock.specs.Story.{StandAt}
use Rattle.worked_serve.proofs.turns.pairs.add_each.Given as goal

abbrev pub invariant-loop-number : goal.invariant-loop-number
invariant-loop-number g l = record {
  kept : KeepsRights l.initial.pass l.pass;
  added : StandAt l.pass.seen l.pass.mine (take l.number-index l.numbers);
  alone : l.initial.pass.shares ≡ 1024 → length l.pass.seen ≡ length l.initial.pass.seen + l.number-index;
}
