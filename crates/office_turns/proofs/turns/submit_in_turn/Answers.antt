use Rattle.std.proofs.Common.{List, sym, subst}
use Rattle.turn_lock.specs.Passes.{PlacesAfter}
use Rattle.office_turns.specs.Submitted.{SubmittedAt}
use Rattle.office_turns.specs.declared.happening.Happening.{Happening}
use Rattle.office_turns.proofs.turns.submit_in_turn.Goals as goal

pub returns : goal.returns
returns g c =
    let ran = c.turn.ensures.ran in
    let base = c.args.pass.now.base in
    let before : List (Happening g.row.D.Denot g.D.Disk) = ran.before.story.happenings.items in
    record {
      kept = c.turn.ensures.kept;
      before = before;
      begins = ran.begins;
      alone = ran.alone;
      submitted = subst (λ (l : List (Happening g.row.D.Denot g.D.Disk)). SubmittedAt base before l (g.C.Clock.gives c.args.clock.now) c.args.asked.now c.turn.result) (sym ran.seen) ran.met;
      places = subst (λ (l : List (Happening g.row.D.Denot g.D.Disk)). PlacesAfter before l c.args.pass.now.mine c.turn.new.pass.mine) (sym ran.seen) ran.mine;
    }
