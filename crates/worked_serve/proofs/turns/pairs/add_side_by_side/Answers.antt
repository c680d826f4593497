use Rattle.std.proofs.Common.{ℕ, length, ap, ◌∙◌}
use Rattle.turn_lock.specs.Passes.{PassRecord, KeepsRights}
use Rattle.turn_lock.specs.Story.{StandAt, IsOfTwo}
use Rattle.turn_lock.proofs.Standing.{at_some, of_two}
use Rattle.worked_serve.proofs.turns.pairs.add_side_by_side.Goals as goal

pub returns : goal.returns
returns g c =
    let ours = at_some (λ (after : PassRecord ℕ ℕ). KeepsRights c.split.new.pass after × StandAt after.seen after.mine c.args.ours.now) _ c.in_ok-ours_pass.ours_pass c.in_ok-ours_pass.was c.join-ours_done.ensures.first in
    let theirs = at_some (λ (after : PassRecord ℕ ℕ). KeepsRights c.in-Ok-split.other after × StandAt after.seen after.mine c.args.theirs.now) _ c.in_ok-theirs_pass.theirs_pass c.in_ok-theirs_pass.was c.join-ours_done.ensures.second in
    let split = c.in-Ok-split.ensures.old in
    let start = c.in-Ok.ensures.ok in
    let both : IsOfTwo c.close.result.items.items c.args.ours.now c.args.theirs.now =
    of_two c.in_ok-ours_pass.ours_pass c.in_ok-theirs_pass.theirs_pass c.join.new.pass c.close.result.label c.close.result.items.items c.args.ours.now c.args.theirs.now
    (ours.0.first ∙ ap (λ p. p.first) split ∙ ap (λ p. p.first) start ∙ ap length c.new.ensures.items) ours.1 theirs.1 c.join.ensures.both c.join.ensures.begins.0 c.join.ensures.begins.1 c.join.ensures.apart c.close.ensures in record {
      base = c.close.ensures.same_base ∙ ap (λ p. p.base) c.join.ensures.both ∙ ours.0.base ∙ ap (λ p. p.base) split ∙ ap (λ p. p.base) start;
      shared = both;
    }
