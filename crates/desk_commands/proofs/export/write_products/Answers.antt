use Rattle.std.proofs.Common.{arith, ◌+◌, sym, ◌∙◌, subst, refl}
use Rattle.office_core.specs.Look.{ShowsProduct}
use Rattle.office_core.specs.State.{product_at}
use Rattle.office_journal.specs.Kept.{state_of}
use Rattle.desk_commands.proofs.Exporting.{exported, exported_before, exported_part, is_there, wrote_next}
use Rattle.desk_commands.proofs.export.write_products.Goals as goal

pub returns-in-Err : goal.returns-in-Err
returns-in-Err g c =
    let part = c.in-Err.ensures.written.part in
    exported_part (state_of c.args.kept.now) c.loop-index.index part.0 c.as_slice.result.now (g.K.Sink.outflow c.args.output.now) (g.K.Sink.outflow c.loop-index.output) (g.K.Sink.outflow c.write_whole.new.sink)
    (subst (ShowsProduct (product_at (state_of c.args.kept.now) (c.loop-index.index + 1))) (sym c.as_slice.ensures) c.in-Ok.ensures.shows) c.loop-index.invariant.wrote part.2 c.loop-index.invariant.steady c.in-Err.ensures.written.cause.failed

pub unreachable-requires : goal.unreachable-requires
unreachable-requires g c =
    let s = state_of c.args.kept.now in
    is_there s c.loop-index.index c.in-Err-No.field-0-0 (omega (arith, c.loop-index-test.true, c.products-index-end.ensures)) (c.in-Err-No.ensures.refused c.in-Err-No.field-0-0 (rw c.in-Err-No.field-0-is refl))

pub returns-in-Err-OutOfMemory : goal.returns-in-Err-OutOfMemory
returns-in-Err-OutOfMemory g c =
    let sink = g.K.Sink in
    exported_before (state_of c.args.kept.now) c.loop-index.index (sink.outflow c.args.output.now) (sink.outflow c.loop-index.output) c.loop-index.invariant.wrote c.loop-index.invariant.steady

pub loop-index-preserved : goal.loop-index-preserved
loop-index-preserved g c =
    let sink = g.K.Sink in
    let shows = subst (ShowsProduct (product_at (state_of c.args.kept.now) (c.loop-index.index + 1))) (sym c.as_slice.ensures) c.in-Ok.ensures.shows in
    record {
      wrote = wrote_next (state_of c.args.kept.now) c.loop-index.index c.as_slice.result.now (sink.outflow c.args.output.now).taken (sink.outflow c.loop-index.output).taken (sink.outflow c.write_whole.new.sink).taken shows c.loop-index.invariant.wrote c.in-Ok-write_whole.ensures.written.ok;
      steady = c.in-Ok-write_whole.ensures.written.steady ∙ c.loop-index.invariant.steady;
    }

pub returns : goal.returns
returns g c =
    let sink = g.K.Sink in
    exported (state_of c.args.kept.now) c.loop-index.index (sink.outflow c.args.output.now) (sink.outflow c.loop-index.output)
    (omega (arith, c.loop-index-test.false, c.products-index-end.ensures)) c.loop-index.invariant.wrote c.loop-index.invariant.steady
