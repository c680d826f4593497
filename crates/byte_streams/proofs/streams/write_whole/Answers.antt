use Rattle.std.proofs.Common.{arith, ◌∙◌}
use Rattle.byte_streams.proofs.Pieces.{adds_both, next_piece, piece_length}
use Rattle.byte_streams.proofs.streams.write_whole.Goals as goal

pub loop-at-preserved : goal.loop-at-preserved
loop-at-preserved g c =
    let bytes = c.in_ok-at.ensures.written.bytes in
    record {
      within = omega (arith, bytes.0, piece_length c.args.bytes.now c.loop-at.at);
      added = adds_both _ _ _ _ _ _ c.loop-at.invariant.added bytes.1 (next_piece c.args.bytes.now c.loop-at.at c.in_ok-at.field-0);
      steady = c.in_ok-at.ensures.written.steady ∙ c.loop-at.invariant.steady;
      beside = g.met.K.Sink.more_writes c.args.sink.now c.loop-at.sink c.write.new.self c.loop-at.invariant.beside c.in_ok-at.ensures.beside;
    }
