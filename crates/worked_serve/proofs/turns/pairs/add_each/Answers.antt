use Rattle.std.proofs.Common.{◌≡◌, ◌+◌, ℕ, List, length, sym, subst, ◌∙◌, arith}
use Rattle.std.proofs.lemmas.List.{take_more}
use Rattle.turn_lock.specs.Story.{StandAt}
use Rattle.turn_lock.proofs.Standing.{turn_pushes, turn_lengthens, keeps_both}
use Rattle.worked_serve.proofs.turns.pairs.add_each.Goals as goal

pub loop-number-preserved : goal.loop-number-preserved
loop-number-preserved g c =
    let so_far = c.loop-number.invariant in
    let new = c.turn.new.pass in
    let run = c.in-Some.ensures.ran in
    let grew = run.met.1 in record {
      kept = keeps_both so_far.kept c.in-Some.ensures.kept;
      added = subst (λ (entries : List ℕ). StandAt new.seen new.mine entries) (sym (take_more c.args.numbers.now c.loop-number.number-index 0 c.loop-number-test.true))
          (turn_pushes _ _ _ _ _ run grew so_far.added);
      alone = λ all.
          let longer : length new.seen ≡ length c.loop-number.pass.seen + 1 = turn_lengthens _ _ _ _ run grew (so_far.kept.shares ∙ all) in
          let before = so_far.alone all in
          omega arith;
    }
