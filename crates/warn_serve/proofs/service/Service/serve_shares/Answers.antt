use Rattle.std.proofs.Common.{◌≡◌, ◌<◌, ◌∙◌, ℕ, List, sym, ap, arith, subst, length, drop, slice_index_or}
use Rattle.std.proofs.lemmas.List.{take_at}
use Rattle.warn_serve.specs.Calls.{AnswersCall, LosesCall}
use Rattle.warn_serve.specs.Gathered.{HasDone, IsFresh, IsGathered}
use Rattle.warn_serve.specs.Shares.{total_of}
use Rattle.warn_serve.proofs.Listing.{all_of, shares_alike, shares_same}
use Rattle.warn_serve.proofs.Sharing.{done_by}
use Rattle.warn_serve.proofs.service.Service.serve_shares.Goals as goal

pub gather-requires-clause-done : goal.gather-requires-clause-done
gather-requires-clause-done g c κs within =
    let door = g.P.Door.Door in
    let state = door.state in
    let answers = AnswersCall (g.C.Clock.gives c.args.self.now.clock.now) in
    let lost = LosesCall (g.C.Clock.gives c.args.self.now.clock.now) in
    let old = c.as_mut_slice.result.now in
    let new = c.work_all.new.workers in
    let same : length new ≡ length old = c.work_all.ensures.count in
    let fresh = all_of c.args.workers.items old c.as_mut_slice.ensures.value (λ w. IsFresh c.args.pass.now w.pass (state w.door) w.share 1000000) (λ w. IsFresh c.args.pass.now w.pass (state w.door) w.share 1000000) (λ w f. f) c.requires.fresh in
    all_of new _ (take_at new (drop (length new) c.args.workers.items) c.args.workers.len (same ∙ (ap length c.as_mut_slice.ensures.value ∙ sym c.args.workers.ok.0)))
    (λ w. HasDone answers lost c.args.pass.now w.share (state w.door) w.pass w.end) (λ w. HasDone answers lost c.args.pass.now w.share (state w.door) w.pass w.end) (λ w h. h)
    (λ k d less.
    let here : k < length old = omega (arith, less, same) in
    let before = slice_index_or old k d in
    let after = slice_index_or new k d in
    done_by answers lost c.args.pass.now before.pass after.pass (state before.door) (state after.door) before.share after.share 1000000 after.end (fresh k d here) (c.work_all.ensures.does k d here) (c.work_all.ensures.share k d here))

pub gather-requires-clause-few : goal.gather-requires-clause-few
gather-requires-clause-few g c =
    let old = c.as_mut_slice.result.now in
    let new = c.work_all.new.workers in
    let same : length new ≡ length old = c.work_all.ensures.count in
    let back = take_at new (drop (length new) c.args.workers.items) c.args.workers.len (same ∙ (ap length c.as_mut_slice.ensures.value ∙ sym c.args.workers.ok.0)) in
    let given = shares_same new _ back (λ w. w.share) ∙ (shares_alike old new same (λ w. w.share) c.work_all.ensures.share ∙ shares_same c.args.workers.items old c.as_mut_slice.ensures.value (λ w. w.share)) in
    omega (arith, ap total_of given, c.requires.few)

pub returns-clause-gathered : goal.returns-clause-gathered
returns-clause-gathered g c =
    let port = g.P.Port.state in
    let old = c.as_mut_slice.result.now in
    let new = c.work_all.new.workers in
    let same : length new ≡ length old = c.work_all.ensures.count in
    let back = take_at new (drop (length new) c.args.workers.items) c.args.workers.len (same ∙ (ap length c.as_mut_slice.ensures.value ∙ sym c.args.workers.ok.0)) in
    let given = shares_same new _ back (λ w. w.share) ∙ (shares_alike old new same (λ w. w.share) c.work_all.ensures.share ∙ shares_same c.args.workers.items old c.as_mut_slice.ensures.value (λ w. w.share)) in
    subst (λ (l : List ℕ). IsGathered (AnswersCall (g.C.Clock.gives c.args.self.now.clock.now)) (LosesCall (g.C.Clock.gives c.args.self.now.clock.now)) l (total_of l) (port c.args.port.now) (port c.gather.new.port) c.args.pass.now c.gather.new.pass c.gather.result) given c.gather.ensures.gathered
