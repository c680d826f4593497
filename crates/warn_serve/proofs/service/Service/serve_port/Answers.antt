use Rattle.std.proofs.Common.{◌≡◌, ◌≤◌, ℕ, [], map, refl, arith, inl, inr, rules, subst, vec_len}
use Rattle.warn_serve.specs.Calls.{AnswersCall, LosesCall}
use Rattle.warn_serve.specs.Gathered.{IsFresh}
use Rattle.warn_serve.specs.Shares.{shares_of, total_of, with_links}
use Rattle.warn_serve.specs.declared.serving.ServeEnd.TheVariants.{PortFault, OutOfMemory}
use Rattle.warn_serve.proofs.EvenShares.{shared_out}
use Rattle.warn_serve.proofs.Gathering.{still_share}
use Rattle.warn_serve.proofs.Listing.{all_of}
use Rattle.warn_serve.proofs.Returning.{counted_so, takes_on}
use Rattle.warn_serve.proofs.Sharing.{gathered_not, gathered_short, takes_same}
use Rattle.warn_serve.proofs.service.Service.serve_port.Goals as goal

pub returns-in-Err-No-clause-gathered : goal.returns-in-Err-No-clause-gathered
returns-in-Err-No-clause-gathered g c =
    let port = g.P.Port.state in
    let first = port c.args.port.now in
    let last = port c.listen.new.self in (
      [],
      gathered_not (AnswersCall (g.C.Clock.gives c.args.self.now.clock.now)) (LosesCall (g.C.Clock.gives c.args.self.now.clock.now)) c.args.connections first last c.args.pass.now PortFault (takes_same first last c.listen.ensures.returned c.listen.ensures.links c.listen.ensures.later) (omega (arith, c.requires.connections.0), counted_so first.faults last.faults c.listen.result c.in-Err-No.field-0 _ c.in-Err-No.is c.in-Err-No.field-0-is c.listen.ensures.counted),
      inr (omega (arith, c.requires.connections.0), tt),
    )

pub returns-in-Err-OutOfMemory-clause-gathered : goal.returns-in-Err-OutOfMemory-clause-gathered
returns-in-Err-OutOfMemory-clause-gathered g c =
    let port = g.P.Port.state in
    let first = port c.args.port.now in
    let last = port c.listen.new.self in (
      [],
      gathered_not (AnswersCall (g.C.Clock.gives c.args.self.now.clock.now)) (LosesCall (g.C.Clock.gives c.args.self.now.clock.now)) c.args.connections first last c.args.pass.now OutOfMemory (takes_same first last c.listen.ensures.returned c.listen.ensures.links c.listen.ensures.later) (inl (omega (arith, c.requires.connections.0)), omega (arith, counted_so first.faults last.faults c.listen.result c.in-Err-OutOfMemory.field-0 _ c.in-Err-OutOfMemory.is c.in-Err-OutOfMemory.field-0-is c.listen.ensures.counted)),
      inr (omega (arith, c.requires.connections.0), tt),
    )

pub serve_shares-end-requires-clause-fresh : goal.serve_shares-end-requires-clause-fresh
serve_shares-end-requires-clause-fresh g c κs within =
    let door = g.P.Door.Door in
    let state = door.state in
    let hired = c.share_out-hired.result.0.items in
    all_of hired hired refl (λ w. IsFresh c.args.pass.now w.pass (state w.door) w.share c.args.connections) (λ w. IsFresh c.share_out-hired.new.pass w.pass (state w.door) w.share 1000000)
    (λ w f. record { is_share = still_share c.args.pass.now c.share_out-hired.new.pass w.pass c.share_out-hired.ensures.kept f.is_share; unused = f.unused; few = omega (arith, f.few, c.requires.connections.1) })
    c.share_out-hired.ensures.fresh

pub returns-clause-gathered : goal.returns-clause-gathered
returns-clause-gathered g c =
    let port = g.P.Port.state in
    let hired = c.share_out-hired.result.0.items in
    let given = map (λ w. w.share) hired in
    let first = port c.args.port.now in
    let heard = port c.listen.new.self in
    let back = takes_on first heard (port c.share_out-hired.new.port) [] [] (takes_same first heard c.listen.ensures.returned c.listen.ensures.links c.listen.ensures.later) c.share_out-hired.ensures.port in
    let same : heard.faults ≡ first.faults = c.in-Ok.ensures.counted in
    let steady : (port c.share_out-hired.new.port).faults ≤ first.faults = omega (arith, same, c.share_out-hired.ensures.steady) in
    let count : vec_len c.into_vec-doors.result ≡ c.args.workers = search rules in (
      given,
      gathered_short (AnswersCall (g.C.Clock.gives c.args.self.now.clock.now)) (LosesCall (g.C.Clock.gives c.args.self.now.clock.now)) given (total_of given) c.share_out-hired.result.1 c.args.connections first (port c.share_out-hired.new.port) (port c.serve_shares-end.new.port) c.args.pass.now c.share_out-hired.new.pass c.serve_shares-end.new.pass c.serve_shares-end.result c.end_with_losses.result
          c.serve_shares-end.ensures.gathered c.share_out-hired.ensures.kept back steady c.share_out-hired.ensures.total c.end_with_losses.ensures,
      shared_out c.args.workers c.args.connections c.share_out-hired.result.1 given c.serve_shares-end.result c.end_with_losses.result c.share_out-hired.ensures.total
          (subst (λ (n : ℕ). c.share_out-hired.result.1 ≡ 0 → with_links given ≡ with_links (shares_of n c.args.connections)) count c.share_out-hired.ensures.even) c.end_with_losses.ensures,
    )
