use Rattle.warn_serve.specs.Calls.{AnswersCall, LosesCall}
use Rattle.warn_serve.specs.Gathered.{DoesShare}
use Rattle.std.proofs.Common.{◌≡◌}
use Rattle.warn_serve.proofs.Listing.{moved}
use Rattle.warn_serve.proofs.hiring.work_all.Goals as goal

pub returns-clause-share : goal.returns-clause-share
returns-clause-share g c = λ i d less.
    let t = (c.for_each_mut.ensures i d less).1 in
    moved _ _ _ _ t.argument_is t.left (λ a b. b.share ≡ a.share) t.call.0

pub returns-clause-does : goal.returns-clause-does
returns-clause-does g c = λ i d less.
    let door = g.Dr.Door in
    let state = door.state in
    let t = (c.for_each_mut.ensures i d less).1 in
    moved _ _ _ _ t.argument_is t.left (λ a b. DoesShare (AnswersCall (g.C.Clock.gives c.args.service.now.clock.now)) (LosesCall (g.C.Clock.gives c.args.service.now.clock.now)) a.share (state a.door) (state b.door) a.pass b.pass b.end) t.call.1
