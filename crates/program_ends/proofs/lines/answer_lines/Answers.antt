use Rattle.std.proofs.Common.{◌≡◌, ◌∙◌, [], take, refl, None, Some}
use Rattle.byte_streams.specs.Flows.{streams}
use Rattle.program_ends.specs.Lines.{rest_from}
use Rattle.program_ends.proofs.Piecewise.{found_none, found_some, stops_by}
use Rattle.program_ends.proofs.Running.{ran_none, ran_next, unbegun, ends_reply, ends_stopped, ends_within}
use Rattle.program_ends.proofs.lines.answer_lines.Goals as goal

pub returns-in_err-line-clause-run : goal.returns-in_err-line-clause-run
returns-in_err-line-clause-run g c =
    rw (stops_by c.from_residual.result _ c.from_residual.ensures.1)
    (unbegun g.A.Answers.answers g.A.Answers.out_of_memory c.args.limit c.args.answers.now (streams (g.S.Source.inflow c.args.input.now) (g.K.Sink.outflow c.args.output.now)))

pub loop-line-init : goal.loop-line-init
loop-line-init g c =
    let before = streams (g.S.Source.inflow c.args.input.now) (g.K.Sink.outflow c.args.output.now) in
    record {
      ran = rw c.up_to-pieces.ensures (ran_none g.A.Answers.answers c.args.limit c.args.answers.now before c.in_ok-line.line c.in_ok-line.ensures);
      read_steady = refl;
      write_steady = refl;
    }

pub loop-line-preserved : goal.loop-line-preserved
loop-line-preserved g c =
    let reads = g.S.Source.inflow in
    let writes = g.K.Sink.outflow in
    let before = streams (reads c.args.input.now) (writes c.args.output.now) in
    let mid = streams (reads c.loop-line.input) (writes c.loop-line.output) in
    let buffer = c.next.new.buffer in
    let count = c.in-Some.count in
    let e = c.in-Some.is in
    let is : c.in_ok-count.field-0 ≡ Some count = cc in
    let piece = found_some c.loop-line.pieces c.next.new.self (reads c.loop-line.input) (reads c.next.new.input) buffer c.in_ok-count.field-0 c.in_ok-count.ensures.found count is in
    let ran = c.loop-line.invariant.ran in
    record {
      ran = ran_next g.A.Answers.answers g.A.Answers.out_of_memory c.args.limit c.args.answers.now c.loop-line.answers before mid c.loop-line.line c.loop-line.pieces c.loop-line.invariant.ran
          c.next.new.self (take count buffer) c.feed.new.answers c.feed.new.line (streams (reads c.next.new.input) (writes c.feed.new.output)) piece (c.in_ok-feed.ensures.fed (rest_from [] ran.seen) ran.line_is);
      read_steady = c.in_ok-count.ensures.cause.steady (λ e. absurd (cc)) ∙ c.loop-line.invariant.read_steady;
      write_steady = c.in_ok-feed.ensures.cause.steady (λ e. absurd (cc)) ∙ c.loop-line.invariant.write_steady;
    }

pub returns-in_err-count-clause-run : goal.returns-in_err-count-clause-run
returns-in_err-count-clause-run g c =
    let reads = g.S.Source.inflow in
    let writes = g.K.Sink.outflow in
    let before = streams (reads c.args.input.now) (writes c.args.output.now) in
    let mid = streams (reads c.loop-line.input) (writes c.loop-line.output) in
    let why = c.in_err-count.field-0.0 in
    rw (stops_by c.from_residual-in_err-count.result why c.from_residual-in_err-count.ensures.1)
    (ends_stopped g.A.Answers.answers g.A.Answers.out_of_memory c.args.limit c.args.answers.now c.loop-line.answers before mid c.loop-line.line c.loop-line.pieces c.loop-line.invariant.ran c.next.new.self (reads c.next.new.input) why c.in_err-count.ensures.stopped)

pub returns-in_err-feed-clause-run : goal.returns-in_err-feed-clause-run
returns-in_err-feed-clause-run g c =
    let reads = g.S.Source.inflow in
    let writes = g.K.Sink.outflow in
    let before = streams (reads c.args.input.now) (writes c.args.output.now) in
    let mid = streams (reads c.loop-line.input) (writes c.loop-line.output) in
    let buffer = c.next.new.buffer in
    let count = c.in-Some.count in
    let e = c.in-Some.is in
    let is : c.in_ok-count.field-0 ≡ Some count = cc in
    let piece = found_some c.loop-line.pieces c.next.new.self (reads c.loop-line.input) (reads c.next.new.input) buffer c.in_ok-count.field-0 c.in_ok-count.ensures.found count is in
    let ran = c.loop-line.invariant.ran in
    let why = c.in_err-feed.field-0.0 in
    rw (stops_by c.from_residual-in_err-feed.result why c.from_residual-in_err-feed.ensures.1)
    (ends_within g.A.Answers.answers g.A.Answers.out_of_memory c.args.limit c.args.answers.now c.loop-line.answers before mid c.loop-line.line c.loop-line.pieces c.loop-line.invariant.ran
    c.next.new.self (take count buffer) (streams (reads c.next.new.input) (writes c.feed.new.output)) piece c.feed.new.answers why (c.in_err-feed.ensures.halted (rest_from [] ran.seen) ran.line_is))

pub returns-clause-run : goal.returns-clause-run
returns-clause-run g c =
    let reads = g.S.Source.inflow in
    let writes = g.K.Sink.outflow in
    let before = streams (reads c.args.input.now) (writes c.args.output.now) in
    let mid = streams (reads c.loop-line.input) (writes c.loop-line.output) in
    let ran = c.loop-line.invariant.ran in
    let e = c.in_default.is in
    let is : c.in_ok-count.field-0 ≡ None = cc in
    let whole = found_none c.loop-line.pieces c.next.new.self (reads c.loop-line.input) (reads c.next.new.input) c.next.new.buffer c.in_ok-count.field-0 c.in_ok-count.ensures.found is in
    let fits = c.unended.ensures (rest_from [] ran.seen) ran.line_is in
    ends_reply g.A.Answers.answers g.A.Answers.out_of_memory c.args.limit c.args.answers.now c.loop-line.answers before mid c.loop-line.line c.loop-line.pieces c.loop-line.invariant.ran
    c.reply.result c.next.new.self (streams (reads c.next.new.input) (writes c.reply.new.output)) whole c.reply.new.answers (rw fits at c.reply.ensures.told) (rw fits at c.reply.ensures.halted)
