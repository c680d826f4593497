use Rattle.std.proofs.Common.{◌∙◌, take, refl}
use Rattle.program_ends.specs.declared.reading.Stop.TheVariants as stop
use Rattle.program_ends.proofs.Piecewise.{found_none, found_some, stops_by}
use Rattle.stats_report.proofs.Reading.{ran_none, ran_next, ends_stopped, ends_memory, ends_lacking, ends_well}
use Rattle.stats_report.proofs.input.count_input.Goals as goal

pub loop-feed-init : goal.loop-feed-init
loop-feed-init g c = record {
  ran = rw c.up_to-pieces.ensures (ran_none c.args.asked.now c.args.limit c.args.tally.now (g.S.Source.inflow c.args.input.now).left c.new-feed.result c.requires.fresh c.new-feed.ensures.rest c.new-feed.ensures.going);
  steady = refl;
}

pub loop-feed-preserved : goal.loop-feed-preserved
loop-feed-preserved g c =
    let piece = found_some c.loop-feed.pieces c.next.new.self (g.S.Source.inflow c.loop-feed.input) (g.S.Source.inflow c.next.new.input) c.next.new.buffer c.in_ok-count.field-0 c.in_ok-count.ensures.found c.in-Some.count (let e = c.in-Some.is in cc) in
    record {
      ran = ran_next c.args.asked.now c.args.limit c.loop-feed.tally (g.S.Source.inflow c.args.input.now).left (g.S.Source.inflow c.loop-feed.input).left c.loop-feed.feed c.loop-feed.pieces c.loop-feed.invariant.ran
          c.next.new.self (take c.in-Some.count c.next.new.buffer) c.push.new.self c.take_each.new.feed c.take_each.new.tally (g.S.Source.inflow c.next.new.input).left piece c.in_ok-push.ensures.ok c.push.ensures.going c.in_ok-take_each.ensures;
      steady = c.in_ok-count.ensures.cause.steady (λ e. absurd (cc)) ∙ c.loop-feed.invariant.steady;
    }

pub returns-in_err-count-clause-run : goal.returns-in_err-count-clause-run
returns-in_err-count-clause-run g c =
    rw (stops_by c.from_residual.result c.in_err-count.field-0.0 c.from_residual.ensures.1)
    (ends_stopped c.args.asked.now c.args.limit c.loop-feed.tally (g.S.Source.inflow c.args.input.now).left (g.S.Source.inflow c.loop-feed.input).left c.loop-feed.feed c.loop-feed.pieces c.loop-feed.invariant.ran c.loop-feed.tally c.next.new.self (g.S.Source.inflow c.next.new.input).left c.in_err-count.field-0.0 c.in_err-count.ensures.stopped)

pub returns-in_err-push-clause-run : goal.returns-in_err-push-clause-run
returns-in_err-push-clause-run g c =
    let piece = found_some c.loop-feed.pieces c.next.new.self (g.S.Source.inflow c.loop-feed.input) (g.S.Source.inflow c.next.new.input) c.next.new.buffer c.in_ok-count.field-0 c.in_ok-count.ensures.found c.in-Some.count (let e = c.in-Some.is in cc) in
    rw (stops_by c.from_residual-in_err-push.result stop.OutOfMemory c.from_residual-in_err-push.ensures.1)
    (ends_memory c.args.asked.now c.args.limit c.loop-feed.tally (g.S.Source.inflow c.args.input.now).left (g.S.Source.inflow c.loop-feed.input).left c.loop-feed.feed c.loop-feed.pieces c.loop-feed.invariant.ran c.loop-feed.tally c.next.new.self (take c.in-Some.count c.next.new.buffer) (g.S.Source.inflow c.next.new.input).left piece)

pub returns-in_err-take_each-clause-run : goal.returns-in_err-take_each-clause-run
returns-in_err-take_each-clause-run g c =
    let piece = found_some c.loop-feed.pieces c.next.new.self (g.S.Source.inflow c.loop-feed.input) (g.S.Source.inflow c.next.new.input) c.next.new.buffer c.in_ok-count.field-0 c.in_ok-count.ensures.found c.in-Some.count (let e = c.in-Some.is in cc) in
    rw (stops_by c.from_residual-in_err-take_each.result stop.OutOfMemory c.from_residual-in_err-take_each.ensures.1)
    (ends_memory c.args.asked.now c.args.limit c.loop-feed.tally (g.S.Source.inflow c.args.input.now).left (g.S.Source.inflow c.loop-feed.input).left c.loop-feed.feed c.loop-feed.pieces c.loop-feed.invariant.ran c.take_each.new.tally c.next.new.self (take c.in-Some.count c.next.new.buffer) (g.S.Source.inflow c.next.new.input).left piece)

pub returns-in_err-take_each-2-clause-run : goal.returns-in_err-take_each-2-clause-run
returns-in_err-take_each-2-clause-run g c =
    let whole = found_none c.loop-feed.pieces c.next.new.self (g.S.Source.inflow c.loop-feed.input) (g.S.Source.inflow c.next.new.input) c.next.new.buffer c.in_ok-count.field-0 c.in_ok-count.ensures.found (let e = c.in_default.is in cc) in
    rw (stops_by c.from_residual-in_err-take_each-2.result stop.OutOfMemory c.from_residual-in_err-take_each-2.ensures.1)
    (ends_lacking c.args.asked.now c.args.limit c.loop-feed.tally (g.S.Source.inflow c.args.input.now).left (g.S.Source.inflow c.loop-feed.input).left c.loop-feed.feed c.loop-feed.pieces c.loop-feed.invariant.ran c.next.new.self (g.S.Source.inflow c.next.new.input).left whole c.take_each-2.new.tally)

pub returns-clause-run : goal.returns-clause-run
returns-clause-run g c =
    let whole = found_none c.loop-feed.pieces c.next.new.self (g.S.Source.inflow c.loop-feed.input) (g.S.Source.inflow c.next.new.input) c.next.new.buffer c.in_ok-count.field-0 c.in_ok-count.ensures.found (let e = c.in_default.is in cc) in
    ends_well c.args.asked.now c.args.limit c.loop-feed.tally (g.S.Source.inflow c.args.input.now).left (g.S.Source.inflow c.loop-feed.input).left c.loop-feed.feed c.loop-feed.pieces c.loop-feed.invariant.ran c.next.new.self (g.S.Source.inflow c.next.new.input).left whole
    tt c.end.new.self c.take_each-2.new.feed c.take_each-2.new.tally c.end.ensures.rest c.end.ensures.ended c.in_ok-take_each-2.ensures
