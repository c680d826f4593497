use Rattle.std.proofs.Common.{ℕ, List, sym, ◌∙◌, subst, arith}
use Rattle.warn_serve.specs.Calls.{AnswersCall, LosesCall}
use Rattle.warn_serve.specs.Steps.{HasGone}
use Rattle.warn_serve.proofs.Going.{goes_on, gone_none, keeps_none, keeps_on, spent_at, stops_at}
use Rattle.warn_serve.proofs.service.Service.serve_calls.Goals as goal

pub loop-index-init : goal.loop-index-init
loop-index-init g c =
    let answers = AnswersCall (g.C.Clock.gives c.args.self.now.clock.now) in
    let link = g.L.Link.state c.args.link.now in
    record {
      within = omega arith;
      kept = keeps_none c.args.pass.now;
      gone = subst (λ (held : List ℕ). HasGone answers link link c.args.pass.now c.args.pass.now held 0) (sym c.requires.empty) (gone_none answers link c.args.pass.now);
    }

pub serve_next-requires : goal.serve_next-requires
serve_next-requires g c = record { pass = c.loop-index.invariant.kept.lock ∙ c.requires.pass }

pub returns-in-Some-clause-kept : goal.returns-in-Some-clause-kept
returns-in-Some-clause-kept g c = keeps_on c.args.pass.now c.loop-index.pass c.serve_next.new.pass c.loop-index.invariant.kept c.in-Some.ensures.kept

pub returns-in-Some-clause-served : goal.returns-in-Some-clause-served
returns-in-Some-clause-served g c =
    let state = g.L.Link.state in
    stops_at (AnswersCall (g.C.Clock.gives c.args.self.now.clock.now)) (LosesCall (g.C.Clock.gives c.args.self.now.clock.now)) (state c.args.link.now) (state c.loop-index.link) (state c.serve_next.new.link) c.args.pass.now c.loop-index.pass c.serve_next.new.pass c.loop-index.inbox c.loop-index.index c.in-Some.end
    c.loop-index.invariant.gone (omega (arith, c.loop-index-test.true)) c.in-Some.ensures.served

pub loop-index-preserved : goal.loop-index-preserved
loop-index-preserved g c =
    let state = g.L.Link.state in
    record {
      within = omega (arith, c.loop-index-test.true);
      kept = keeps_on c.args.pass.now c.loop-index.pass c.serve_next.new.pass c.loop-index.invariant.kept c.in-None.ensures.kept;
      gone = goes_on (AnswersCall (g.C.Clock.gives c.args.self.now.clock.now)) (state c.args.link.now) (state c.loop-index.link) (state c.serve_next.new.link) c.args.pass.now c.loop-index.pass c.serve_next.new.pass c.loop-index.inbox c.serve_next.new.inbox c.loop-index.index
          c.loop-index.invariant.gone c.in-None.ensures.served;
    }

pub returns-clause-kept : goal.returns-clause-kept
returns-clause-kept g c = c.loop-index.invariant.kept

pub returns-clause-served : goal.returns-clause-served
returns-clause-served g c =
    let state = g.L.Link.state in
    spent_at (AnswersCall (g.C.Clock.gives c.args.self.now.clock.now)) (LosesCall (g.C.Clock.gives c.args.self.now.clock.now)) (state c.args.link.now) (state c.loop-index.link) c.args.pass.now c.loop-index.pass c.loop-index.inbox c.loop-index.index
    c.loop-index.invariant.gone (omega (arith, c.loop-index-test.false, c.loop-index.invariant.within))
