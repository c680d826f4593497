use Rattle.std.proofs.Common.{◌∙◌, ◌++◌, List, flat_map, ap, refl}
use Rattle.product_decoder.specs.declared.types.Track.{Track}
use Rattle.archive_report.specs.Report.{life_line}
use Rattle.archive_report.proofs.Paging.{pages_none, part_next, part_halts, halts_alike}
use Rattle.program_ends.proofs.Piecewise.{stops_by}
use Rattle.archive_report.proofs.findings.write_event.Goals as goal

pub loop-life-init : goal.loop-life-init
loop-life-init g c = record { pages = pages_none (g.K.Sink.outflow c.args.output.now) c.args.out.now; steady = refl }

pub loop-life-preserved : goal.loop-life-preserved
loop-life-preserved g c =
    record {
      pages = part_next life_line _ c.loop-life.life-index (g.K.Sink.outflow c.args.output.now) (g.K.Sink.outflow c.loop-life.output) c.args.out.now c.loop-life.out c.loop-life.invariant.pages
          c.life-item.result c.write_life.new.out (g.K.Sink.outflow c.write_life.new.output) c.loop-life-test.true c.life-item.is c.in_ok-write_life.ensures.told;
      steady = c.in_ok-write_life.ensures.cause.steady (λ e. absurd (cc)) ∙ c.loop-life.invariant.steady;
    }

pub returns-in_err-write_life-clause-halted : goal.returns-in_err-write_life-clause-halted
returns-in_err-write_life-clause-halted g c =
    let lives = c.as_slice-life-items.ensures ∙ c.in_ok-lives.ensures in
    rw (stops_by c.from_residual-in_err-write_life.result c.in_err-write_life.field-0.0 c.from_residual-in_err-write_life.ensures.1)
    (halts_alike (g.K.Sink.outflow c.args.output.now) (g.K.Sink.outflow c.write_life.new.output) _ _ c.in_err-write_life.field-0.0 (ap (λ (all : List Track). c.args.out.now ++ flat_map life_line all) lives)
    (part_halts life_line _ c.loop-life.life-index (g.K.Sink.outflow c.args.output.now) (g.K.Sink.outflow c.loop-life.output) c.args.out.now c.loop-life.out c.loop-life.invariant.pages
    c.life-item.result (g.K.Sink.outflow c.write_life.new.output) c.in_err-write_life.field-0.0 c.loop-life-test.true c.life-item.is c.in_err-write_life.ensures.halted))
