use Rattle.std.proofs.Common.{◌≡◌, ℕ, List, refl, subst, inl, arith}
use Rattle.warn_http.specs.Calls.{posted_in}
use Rattle.warn_serve.specs.Calls.{AnswersAsked, AnswersCall, LosesCall}
use Rattle.warn_serve.specs.Steps.{IsUnwritten}
use Rattle.warn_serve.specs.declared.links.LinkEnd.TheVariants.{Closed, Cut, LinkFault}
use Rattle.warn_serve.proofs.Saying.{call_sent, ends_at, failed_read, refusal_sent}
use Rattle.warn_serve.proofs.service.Service.serve_next.Goals as goal

pub returns-in-Call-clause-served : goal.returns-in-Call-clause-served
returns-in-Call-clause-served g c =
    let state = g.L.Link.state in
    let next = c.in-Call.ensures in
    let sent = c.serve_call-end.ensures.sent in
    let judged = subst (λ (bytes : List ℕ). AnswersAsked c.in-Call.last c.args.pass.now c.serve_call-end.new.pass sent.0 (g.C.Clock.gives c.args.self.now.clock.now) c.in-Call.call (posted_in bytes c.in-Call.call)) c.as_slice-bytes.ensures sent.1 in
    call_sent (AnswersCall (g.C.Clock.gives c.args.self.now.clock.now)) (LosesCall (g.C.Clock.gives c.args.self.now.clock.now)) (c.serve_call-end.new.pass.mine ≡ c.args.pass.now.mine) (state c.args.link.now) (state c.next_call.new.link) (state c.serve_call-end.new.link) c.args.pass.now c.serve_call-end.new.pass c.args.inbox.now c.next_call.new.inbox c.skip.new.self next.read.read
    (record { call = c.in-Call.call; posted = posted_in c.next_call.new.inbox c.in-Call.call; used = c.in-Call.used; last = c.in-Call.last })
    sent.0 c.serve_call-end.result next.read.stands next.read.takes
    (record { came = next.read.came; output = next.read.output; later = next.later })
    next.steady next.next.0 judged (λ same. (judged, same)) c.skip.ensures sent.2

pub returns-in-Refused-clause-served : goal.returns-in-Refused-clause-served
returns-in-Refused-clause-served g c =
    let state = g.L.Link.state in
    let next = c.in-Refused.ensures in
    refusal_sent (AnswersCall (g.C.Clock.gives c.args.self.now.clock.now)) (LosesCall (g.C.Clock.gives c.args.self.now.clock.now)) (Unit {0}) (state c.args.link.now) (state c.next_call.new.link) (state c.refuse.new.link) c.args.pass.now c.args.inbox.now c.next_call.new.inbox c.next_call.new.inbox next.read.read
    c.in-Refused.refusal c.refuse.result next.read.stands next.read.takes
    (record { came = next.read.came; output = next.read.output; later = next.later })
    next.next c.refuse.ensures

pub returns-in-Closed-clause-served : goal.returns-in-Closed-clause-served
returns-in-Closed-clause-served g c =
    let state = g.L.Link.state in
    let next = c.in-Closed.ensures in
    ends_at (AnswersCall (g.C.Clock.gives c.args.self.now.clock.now)) (LosesCall (g.C.Clock.gives c.args.self.now.clock.now)) (state c.args.link.now) (state c.next_call.new.link) c.args.pass.now c.args.inbox.now c.next_call.new.inbox next.read.read Closed
    next.read.stands next.read.takes
    (record { came = next.read.came; output = next.read.output; later = next.later })
    (omega arith) (inl (next.next.2, next.next.0, next.next.1, record { unused = refl; unwritten = refl }))

pub returns-in-Cut-clause-served : goal.returns-in-Cut-clause-served
returns-in-Cut-clause-served g c =
    let state = g.L.Link.state in
    let next = c.in-Cut.ensures in
    ends_at (AnswersCall (g.C.Clock.gives c.args.self.now.clock.now)) (LosesCall (g.C.Clock.gives c.args.self.now.clock.now)) (state c.args.link.now) (state c.next_call.new.link) c.args.pass.now c.args.inbox.now c.next_call.new.inbox next.read.read Cut
    next.read.stands next.read.takes
    (record { came = next.read.came; output = next.read.output; later = next.later })
    (omega arith) (next.next.2, next.next.0, next.next.1, record { unused = refl; unwritten = refl })

pub returns-in-LinkFault-clause-served : goal.returns-in-LinkFault-clause-served
returns-in-LinkFault-clause-served g c =
    let state = g.L.Link.state in
    let next = c.in-LinkFault.ensures in
    let quiet : IsUnwritten (state c.args.link.now) (state c.next_call.new.link) = record { came = next.read.came; output = next.read.output; later = next.later } in
    ends_at (AnswersCall (g.C.Clock.gives c.args.self.now.clock.now)) (LosesCall (g.C.Clock.gives c.args.self.now.clock.now)) (state c.args.link.now) (state c.next_call.new.link) c.args.pass.now c.args.inbox.now c.next_call.new.inbox next.read.read LinkFault
    next.read.stands next.read.takes quiet (omega arith)
    (failed_read (state c.args.link.now) (state c.next_call.new.link) quiet next.next.0, inl (record { unused = refl; unwritten = refl }, next.next.1))
