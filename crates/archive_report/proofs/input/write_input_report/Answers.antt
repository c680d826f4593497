use Rattle.std.proofs.Common.{◌∙◌, take, refl}
use Rattle.byte_streams.specs.Flows.{streams}
use Rattle.program_ends.specs.declared.reading.Stop.TheVariants as stop
use Rattle.program_ends.proofs.Piecewise.{found_none, found_some, stops_by}
use Rattle.archive_report.specs.Pieces.{ReadsAll}
use Rattle.archive_report.proofs.Reading.{ran_none, ran_next, ends_stopped, ends_memory, ends_piece, ends_last}
use Rattle.archive_report.proofs.input.write_input_report.Goals as goal

pub loop-feed-init : goal.loop-feed-init
loop-feed-init g c = record {
  ran = rw c.up_to-pieces.ensures (ran_none c.args.asked.now c.args.limit c.args.tally.now (streams (g.S.Source.inflow c.args.input.now) (g.K.Sink.outflow c.args.output.now)) c.new-feed.result c.requires.tally c.requires.fresh c.new-feed.ensures.rest c.new-feed.ensures.going);
  read_steady = refl;
  write_steady = refl;
}

pub loop-feed-preserved : goal.loop-feed-preserved
loop-feed-preserved g c =
    let piece = found_some c.loop-feed.pieces c.next.new.self (g.S.Source.inflow c.loop-feed.input) (g.S.Source.inflow c.next.new.input) c.next.new.buffer c.in_ok-count.field-0 c.in_ok-count.ensures.found c.in-Some.count (let e = c.in-Some.is in cc) in
    record {
      ran = ran_next c.args.asked.now c.args.limit c.loop-feed.tally (streams (g.S.Source.inflow c.args.input.now) (g.K.Sink.outflow c.args.output.now)) (streams (g.S.Source.inflow c.loop-feed.input) (g.K.Sink.outflow c.loop-feed.output)) c.loop-feed.feed c.loop-feed.pieces c.loop-feed.invariant.ran
          c.next.new.self (take c.in-Some.count c.next.new.buffer) c.push.new.self c.write_products.new.feed c.write_products.new.tally (streams (g.S.Source.inflow c.next.new.input) (g.K.Sink.outflow c.write_products.new.output)) piece c.in_ok-push.ensures.ok c.push.ensures.going c.in_ok-write_products.ensures.told;
      read_steady = c.in_ok-count.ensures.cause.steady (λ e. absurd (cc)) ∙ c.loop-feed.invariant.read_steady;
      write_steady = c.in_ok-write_products.ensures.cause.steady (λ e. absurd (cc)) ∙ c.loop-feed.invariant.write_steady;
    }

pub returns-in_err-count-clause-run : goal.returns-in_err-count-clause-run
returns-in_err-count-clause-run g c =
    rw (stops_by c.from_residual.result c.in_err-count.field-0.0 c.from_residual.ensures.1)
    (ends_stopped c.args.asked.now c.args.limit c.loop-feed.tally (streams (g.S.Source.inflow c.args.input.now) (g.K.Sink.outflow c.args.output.now)) (streams (g.S.Source.inflow c.loop-feed.input) (g.K.Sink.outflow c.loop-feed.output)) c.loop-feed.feed c.loop-feed.pieces c.loop-feed.invariant.ran (ReadsAll c.args.asked.now c.loop-feed.tally) c.next.new.self (g.S.Source.inflow c.next.new.input) c.in_err-count.field-0.0 c.in_err-count.ensures.stopped)

pub returns-in_err-push-clause-run : goal.returns-in_err-push-clause-run
returns-in_err-push-clause-run g c =
    let piece = found_some c.loop-feed.pieces c.next.new.self (g.S.Source.inflow c.loop-feed.input) (g.S.Source.inflow c.next.new.input) c.next.new.buffer c.in_ok-count.field-0 c.in_ok-count.ensures.found c.in-Some.count (let e = c.in-Some.is in cc) in
    rw (stops_by c.from_residual-in_err-push.result stop.OutOfMemory c.from_residual-in_err-push.ensures.1)
    (ends_memory c.args.asked.now c.args.limit c.loop-feed.tally (streams (g.S.Source.inflow c.args.input.now) (g.K.Sink.outflow c.args.output.now)) (streams (g.S.Source.inflow c.loop-feed.input) (g.K.Sink.outflow c.loop-feed.output)) c.loop-feed.feed c.loop-feed.pieces c.loop-feed.invariant.ran (ReadsAll c.args.asked.now c.loop-feed.tally)
    c.next.new.self (take c.in-Some.count c.next.new.buffer) (streams (g.S.Source.inflow c.next.new.input) (g.K.Sink.outflow c.loop-feed.output)) piece refl)

pub returns-in_err-write_products-clause-run : goal.returns-in_err-write_products-clause-run
returns-in_err-write_products-clause-run g c =
    let piece = found_some c.loop-feed.pieces c.next.new.self (g.S.Source.inflow c.loop-feed.input) (g.S.Source.inflow c.next.new.input) c.next.new.buffer c.in_ok-count.field-0 c.in_ok-count.ensures.found c.in-Some.count (let e = c.in-Some.is in cc) in
    rw (stops_by c.from_residual-in_err-write_products.result c.in_err-write_products.field-0.0 c.from_residual-in_err-write_products.ensures.1)
    (ends_piece c.args.asked.now c.args.limit c.loop-feed.tally (streams (g.S.Source.inflow c.args.input.now) (g.K.Sink.outflow c.args.output.now)) (streams (g.S.Source.inflow c.loop-feed.input) (g.K.Sink.outflow c.loop-feed.output)) c.loop-feed.feed c.loop-feed.pieces c.loop-feed.invariant.ran (ReadsAll c.args.asked.now c.write_products.new.tally)
    c.next.new.self (take c.in-Some.count c.next.new.buffer) c.push.new.self c.in_err-write_products.field-0.0 (streams (g.S.Source.inflow c.next.new.input) (g.K.Sink.outflow c.write_products.new.output)) piece c.in_ok-push.ensures.ok c.push.ensures.going c.in_err-write_products.ensures.halted)

pub returns-clause-run : goal.returns-clause-run
returns-clause-run g c =
    let whole = found_none c.loop-feed.pieces c.next.new.self (g.S.Source.inflow c.loop-feed.input) (g.S.Source.inflow c.next.new.input) c.next.new.buffer c.in_ok-count.field-0 c.in_ok-count.ensures.found (let e = c.in_default.is in cc) in
    ends_last c.args.asked.now c.args.limit c.loop-feed.tally (streams (g.S.Source.inflow c.args.input.now) (g.K.Sink.outflow c.args.output.now)) (streams (g.S.Source.inflow c.loop-feed.input) (g.K.Sink.outflow c.loop-feed.output)) c.loop-feed.feed c.loop-feed.pieces c.loop-feed.invariant.ran
    c.end.new.self c.write_products-2.new.feed c.write_products-2.new.tally c.next.new.self (streams (g.S.Source.inflow c.next.new.input) (g.K.Sink.outflow c.write_products-2.new.output)) c.write_products-2.result c.end.ensures.rest c.end.ensures.ended whole
    c.write_products-2.ensures.told c.write_products-2.ensures.halted
