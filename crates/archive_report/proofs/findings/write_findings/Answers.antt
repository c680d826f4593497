use Rattle.std.proofs.Common.{◌≡◌, rules}
use Rattle.product_decoder.specs.ReaderModel.{found_of, gaps_found}
use Rattle.program_ends.specs.declared.reading.Stop.TheVariants as stop
use Rattle.program_ends.proofs.Piecewise.{stops_by}
use Rattle.archive_report.proofs.ToldFindings.{lives_halt, lacks_behind, found_halt, gaps_halt, all_told}
use Rattle.archive_report.proofs.findings.write_findings.Goals as goal

pub returns-in_err-write_lives-clause-halted : goal.returns-in_err-write_lives-clause-halted
returns-in_err-write_lives-clause-halted g c =
    rw (stops_by c.from_residual.result c.in_err-write_lives.field-0.0 c.from_residual.ensures.1)
    (lives_halt c.args.tally.now.numbers c.args.tally.now.reader.products (g.K.Sink.outflow c.args.output.now) (g.K.Sink.outflow c.write_lives.new.output) c.args.out.now c.write_lives.new.out c.in_err-write_lives.field-0.0 c.in_err-write_lives.ensures.halted)

pub returns-in_err-breaches-clause-halted : goal.returns-in_err-breaches-clause-halted
returns-in_err-breaches-clause-halted g c =
    rw (stops_by c.from_residual-in_err-breaches.result stop.OutOfMemory c.from_residual-in_err-breaches.ensures.1)
    (lacks_behind c.args.tally.now.numbers c.args.tally.now.reader.products (g.K.Sink.outflow c.args.output.now) (g.K.Sink.outflow c.write_lives.new.output) c.args.out.now c.write_lives.new.out c.in_ok-write_lives.ensures.told)

pub returns-in_err-gaps-clause-halted : goal.returns-in_err-gaps-clause-halted
returns-in_err-gaps-clause-halted g c =
    rw (stops_by c.from_residual-in_err-gaps.result stop.OutOfMemory c.from_residual-in_err-gaps.ensures.1)
    (lacks_behind c.args.tally.now.numbers c.args.tally.now.reader.products (g.K.Sink.outflow c.args.output.now) (g.K.Sink.outflow c.write_lives.new.output) c.args.out.now c.write_lives.new.out c.in_ok-write_lives.ensures.told)

pub returns-in_err-write_breaches-clause-halted : goal.returns-in_err-write_breaches-clause-halted
returns-in_err-write_breaches-clause-halted g c =
    let numbers_are : c.as_slice.result.now ≡ c.args.tally.now.numbers = search rules in
    let found_are : c.as_slice-2.result.now ≡ found_of c.args.tally.now.reader.products = search rules in
    rw (stops_by c.from_residual-in_err-write_breaches.result c.in_err-write_breaches.field-0.0 c.from_residual-in_err-write_breaches.ensures.1)
    (found_halt c.args.tally.now.numbers c.args.tally.now.reader.products (g.K.Sink.outflow c.args.output.now) (g.K.Sink.outflow c.write_lives.new.output) c.args.out.now c.write_lives.new.out
    (g.K.Sink.outflow c.write_breaches.new.output) c.in_err-write_breaches.field-0.0 c.in_ok-write_lives.ensures.told (rw (numbers_are, found_are) at c.in_err-write_breaches.ensures.halted))

pub returns-in_err-write_entries-clause-halted : goal.returns-in_err-write_entries-clause-halted
returns-in_err-write_entries-clause-halted g c =
    let numbers_are : c.as_slice.result.now ≡ c.args.tally.now.numbers = search rules in
    let found_are : c.as_slice-2.result.now ≡ found_of c.args.tally.now.reader.products = search rules in
    let gaps_are : c.as_slice-3.result.now ≡ gaps_found c.args.tally.now.reader.products = search rules in
    rw (stops_by c.from_residual-in_err-write_entries.result c.in_err-write_entries.field-0.0 c.from_residual-in_err-write_entries.ensures.1)
    (gaps_halt c.args.tally.now.numbers c.args.tally.now.reader.products (g.K.Sink.outflow c.args.output.now) (g.K.Sink.outflow c.write_lives.new.output) c.args.out.now c.write_lives.new.out
    (g.K.Sink.outflow c.write_breaches.new.output) (g.K.Sink.outflow c.write_entries.new.output) c.write_breaches.new.out c.in_err-write_entries.field-0.0 c.in_ok-write_lives.ensures.told
    (rw (numbers_are, found_are) at c.in_ok-write_breaches.ensures.told) (rw gaps_are at c.in_err-write_entries.ensures.halted))

pub returns-clause-told : goal.returns-clause-told
returns-clause-told g c =
    let numbers_are : c.as_slice.result.now ≡ c.args.tally.now.numbers = search rules in
    let found_are : c.as_slice-2.result.now ≡ found_of c.args.tally.now.reader.products = search rules in
    let gaps_are : c.as_slice-3.result.now ≡ gaps_found c.args.tally.now.reader.products = search rules in
    all_told c.args.tally.now.numbers c.args.tally.now.reader.products (g.K.Sink.outflow c.args.output.now) (g.K.Sink.outflow c.write_lives.new.output) c.args.out.now c.write_lives.new.out
    (g.K.Sink.outflow c.write_breaches.new.output) (g.K.Sink.outflow c.write_entries.new.output) c.write_breaches.new.out c.write_entries.new.out c.in_ok-write_lives.ensures.told
    (rw (numbers_are, found_are) at c.in_ok-write_breaches.ensures.told) (rw gaps_are at c.in_ok-write_entries.ensures.told)
