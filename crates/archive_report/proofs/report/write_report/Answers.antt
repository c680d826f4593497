use Rattle.std.proofs.Common.{map}
use Rattle.byte_streams.specs.Flows.{streams}
use Rattle.product_decoder.specs.Decoded.{decode}
use Rattle.product_decoder.specs.Feeding.{products_in}
use Rattle.archive_report.proofs.Ending.{ends_rest}
use Rattle.archive_report.proofs.Numbers.{tally_numbered}
use Rattle.archive_report.proofs.report.write_report.Goals as goal

pub write_rest-requires-clause-numbered : goal.write_rest-requires-clause-numbered
write_rest-requires-clause-numbered g c =
    let run = c.in_ok-write_input_report.ensures.run in
    tally_numbered c.args.asked.now (map decode (products_in run.read)) c.write_input_report.new.tally run.ended.2.0

pub returns-clause-run : goal.returns-clause-run
returns-clause-run g c =
    let reads = g.S.Source.inflow in
    let writes = g.K.Sink.outflow in
    ends_rest c.args.asked.now c.args.limit c.write_input_report.new.tally (streams (reads c.args.input.now) (writes c.args.output.now)) (streams (reads c.write_input_report.new.input) (writes c.write_input_report.new.output)) _ c.in_ok-write_input_report.ensures.run
    (writes c.write_rest.new.output) c.write_rest.result c.write_rest.ensures.told c.write_rest.ensures.count c.write_rest.ensures.halted
