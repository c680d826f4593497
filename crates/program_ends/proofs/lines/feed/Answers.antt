use Rattle.std.proofs.Common.{◌∙◌, ◌++◌, ◌∷◌, [], get_or}
use Rattle.program_ends.proofs.Feeding.{fed_end, fed_byte, fed_halts}
use Rattle.program_ends.proofs.Piecewise.{stops_by}
use Rattle.program_ends.proofs.lines.feed.Goals as goal
use Rattle.program_ends.proofs.lines.feed.Goals.{then-byte-eq10+in_ok-reply, else-byte-eq10}

pub returns-in_err-reply-clause-halted : goal.returns-in_err-reply-clause-halted
returns-in_err-reply-clause-halted g c =
    rw (stops_by c.from_residual.result c.in_err-reply.field-0.0 c.from_residual.ensures.1)
    (λ begun e.
    let fed = c.loop-byte.invariant.fed begun e in
    let fits = c.line_at_end.ensures fed.0 fed.1 in
    fed_halts g.A.Answers.answers g.A.Answers.out_of_memory c.args.answers.now begun c.args.chunk.now (g.K.Sink.outflow c.args.output.now) c.loop-byte.answers c.loop-byte.byte-index fed.0 (g.K.Sink.outflow c.loop-byte.output)
    fed.2 c.loop-byte-test.true c.if-byte-eq10.true c.reply.new.answers (g.K.Sink.outflow c.reply.new.output) c.in_err-reply.field-0.0 (rw fits at c.in_err-reply.ensures.halted))

pub loop-byte-preserved : goal.loop-byte-preserved
loop-byte-preserved g c =
    let chunk = c.args.chunk.now in
    let at = c.loop-byte.byte-index in
    elim c.if-byte-eq10.branch [
      | then-byte-eq10+in_ok-reply w ↦
          rw (w.answers-is, w.line-is, w.output-is) (record {
            fed = λ begun e.
                let fed = c.loop-byte.invariant.fed begun e in
                let fits = w.line_at_end.ensures fed.0 fed.1 in (
                  [],
                  w.clear.ensures,
                  fed_end g.A.Answers.answers g.A.Answers.out_of_memory c.args.answers.now begun chunk (g.K.Sink.outflow c.args.output.now) c.loop-byte.answers at fed.0 (g.K.Sink.outflow c.loop-byte.output)
                      fed.2 c.loop-byte-test.true w.if-byte-eq10.true w.reply.new.answers (g.K.Sink.outflow w.reply.new.output) (rw fits at w.in_ok-reply.ensures.told),
                );
            steady = w.in_ok-reply.ensures.cause.steady (λ e. absurd (cc)) ∙ c.loop-byte.invariant.steady;
          })
      | else-byte-eq10 w ↦
          rw (w.answers-is, w.line-is, w.output-is) (record {
            fed = λ begun e.
                let fed = c.loop-byte.invariant.fed begun e in (
                  fed.0 ++ get_or chunk at 0 ∷ [],
                  w.push.ensures fed.0 fed.1,
                  fed_byte g.A.Answers.answers g.A.Answers.out_of_memory c.args.answers.now begun chunk (g.K.Sink.outflow c.args.output.now) c.loop-byte.answers at fed.0 (g.K.Sink.outflow c.loop-byte.output)
                      fed.2 c.loop-byte-test.true w.if-byte-eq10.false,
                );
            steady = c.loop-byte.invariant.steady;
          })
    ]
