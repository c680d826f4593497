use Rattle.std.proofs.Common.{[], ◌∷◌, ◌++◌, refl, sym, ◌∙◌, ap, arith, append_assoc, map, rules, subst, length, length-append}
use Rattle.desk_links.specs.Links.{PortState}
use Rattle.std.proofs.lemmas.List.{map-append}
use Rattle.warn_serve.specs.Calls.{AnswersCall, LosesCall}
use Rattle.warn_serve.specs.Gathered.{HasDone, IsGathered}
use Rattle.warn_serve.specs.Shares.{total_of}
use Rattle.warn_serve.proofs.Gathering.{all_given}
use Rattle.warn_serve.proofs.Listing.{all_here, total_here}
use Rattle.warn_serve.proofs.Returning.{total_on}
use Rattle.warn_serve.proofs.Sharing.{done_returned, gathered_none, gathered_on}
use Rattle.warn_serve.proofs.service.Service.gather.Goals as goal

pub loop-worker-init : goal.loop-worker-init
loop-worker-init g c =
    record {
      can = tt;
      ends = tt;
      items = search rules;
      shares = omega arith;
      gathered = gathered_none (AnswersCall (g.C.Clock.gives c.args.self.now.clock.now)) (LosesCall (g.C.Clock.gives c.args.self.now.clock.now)) (g.P.Port.state c.args.port.now) c.args.pass.now;
      numbers = refl;
    }

pub join-requires-clause-pass : goal.join-requires-clause-pass
join-requires-clause-pass g c = c.loop-worker.invariant.gathered.passes.lock ∙ c.requires.lock

pub join-requires-clause-other : goal.join-requires-clause-other
join-requires-clause-other g c =
    let door = g.P.Door.Door in
    let step = c.loop-worker.invariant.items ∙ ap (λ l. c.loop-worker.yielded ++ l) c.in-Some.ensures.steps.0 in
    let done = all_here c.loop-worker.yielded c.in-Some.worker c.next.new.self.rest.items c.args.workers.items step (λ w. HasDone (AnswersCall (g.C.Clock.gives c.args.self.now.clock.now)) (LosesCall (g.C.Clock.gives c.args.self.now.clock.now)) c.args.pass.now w.share (door.state w.door) w.pass w.end) c.requires.done in
    done.does.rights.lock ∙ (done.is_share.lock ∙ c.requires.lock)

pub return_door-requires-clause-none_out : goal.return_door-requires-clause-none_out
return_door-requires-clause-none_out g c =
    let door = g.P.Door.Door in
    let step = c.loop-worker.invariant.items ∙ ap (λ l. c.loop-worker.yielded ++ l) c.in-Some.ensures.steps.0 in
    let done = all_here c.loop-worker.yielded c.in-Some.worker c.next.new.self.rest.items c.args.workers.items step (λ w. HasDone (AnswersCall (g.C.Clock.gives c.args.self.now.clock.now)) (LosesCall (g.C.Clock.gives c.args.self.now.clock.now)) c.args.pass.now w.share (door.state w.door) w.pass w.end) c.requires.done in
    done.does.none_out

pub return_door-requires-clause-few : goal.return_door-requires-clause-few
return_door-requires-clause-few g c =
    let door = g.P.Door.Door in
    let answers = AnswersCall (g.C.Clock.gives c.args.self.now.clock.now) in
    let lost = LosesCall (g.C.Clock.gives c.args.self.now.clock.now) in
    let state = door.state in
    let step = c.loop-worker.invariant.items ∙ ap (λ l. c.loop-worker.yielded ++ l) c.in-Some.ensures.steps.0 in
    let done = all_here c.loop-worker.yielded c.in-Some.worker c.next.new.self.rest.items c.args.workers.items step (λ w. HasDone answers lost c.args.pass.now w.share (state w.door) w.pass w.end) c.requires.done in
    let few = done_returned answers lost c.args.pass.now c.in-Some.worker.pass c.in-Some.worker.share (state c.in-Some.worker.door) c.in-Some.worker.end done in
    let sum = total_here c.loop-worker.yielded c.in-Some.worker c.next.new.self.rest.items c.args.workers.items step (λ w. w.share) in
    let was = c.loop-worker.invariant.gathered in
    omega (arith, few, sum, was.back.returned, was.within, c.requires.few)

pub loop-worker-preserved : goal.loop-worker-preserved
loop-worker-preserved g c =
    let door = g.P.Door.Door in
    let port = g.P.Port.state in
    let answers = AnswersCall (g.C.Clock.gives c.args.self.now.clock.now) in
    let lost = LosesCall (g.C.Clock.gives c.args.self.now.clock.now) in
    let state = door.state in
    let yielded = c.loop-worker.yielded in
    let one = c.in-Some.worker in
    let step = c.loop-worker.invariant.items ∙ ap (λ l. yielded ++ l) c.in-Some.ensures.steps.0 in
    let done = all_here yielded one c.next.new.self.rest.items c.args.workers.items step (λ w. HasDone answers lost c.args.pass.now w.share (state w.door) w.pass w.end) c.requires.done in
    record {
      can = tt;
      ends = tt;
      items = step ∙ sym (append_assoc yielded (one ∷ []) c.next.new.self.rest.items);
      shares =
          (let s = ap (λ z. z.shares) c.join.ensures.both in
          let r = done.does.rights.shares in
          let t = done.is_share.shares in
          let n = length-append yielded (one ∷ []) in
          omega (arith, c.loop-worker.invariant.shares));
      gathered = gathered_on answers lost (map (λ w. w.share) yielded) (map (λ w. w.share) (yielded ++ one ∷ [])) (total_of (map (λ w. w.share) yielded)) one.share (total_of (map (λ w. w.share) (yielded ++ one ∷ [])))
          (port c.args.port.now) (port c.loop-worker.port) (port c.return_door.new.self) c.args.pass.now c.loop-worker.pass c.join.new.pass one.pass (state one.door) c.loop-worker.end c.end_after-end.result one.end
          c.loop-worker.invariant.gathered done (map-append (λ w. w.share) yielded (one ∷ [])) (total_on (λ w. w.share) yielded one) c.end_after-end.ensures
          c.join.ensures.both c.join.ensures.begins.0 c.join.ensures.begins.1 c.return_door.ensures;
      numbers = ap (λ (p : PortState). p.numbers) c.return_door.ensures ∙ c.loop-worker.invariant.numbers;
    }

pub returns-clause-shares : goal.returns-clause-shares
returns-clause-shares g c =
    let rest = c.loop-worker.worker-iterator.rest in
    let all = all_given c.args.workers.items c.loop-worker.yielded rest.items rest.len c.loop-worker.invariant.items rest.ok.0 c.in-None.ensures.steps.0 in
    let n = ap length all in
    omega (arith, c.loop-worker.invariant.shares, c.args.workers.ok.0)

pub returns-clause-gathered : goal.returns-clause-gathered
returns-clause-gathered g c =
    let port = g.P.Port.state in
    let rest = c.loop-worker.worker-iterator.rest in
    let all = all_given c.args.workers.items c.loop-worker.yielded rest.items rest.len c.loop-worker.invariant.items rest.ok.0 c.in-None.ensures.steps.0 in
    subst (λ l. IsGathered (AnswersCall (g.C.Clock.gives c.args.self.now.clock.now)) (LosesCall (g.C.Clock.gives c.args.self.now.clock.now)) (map (λ w. w.share) l) (total_of (map (λ w. w.share) l)) (port c.args.port.now) (port c.loop-worker.port) c.args.pass.now c.loop-worker.pass c.loop-worker.end) all c.loop-worker.invariant.gathered
