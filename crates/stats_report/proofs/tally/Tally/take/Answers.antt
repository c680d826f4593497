use Rattle.std.proofs.lemmas.Result.{on_ok_weaker}
use Rattle.archive_report.specs.Readings.{said_of}
use Rattle.stats_report.proofs.Keeping.{counts_told}
use Rattle.stats_report.proofs.tally.Tally.take.Goals as goal

pub returns : goal.returns
returns c =
    on_ok_weaker c.add_reading.result (λ takes. counts_told c.args.asked.now (said_of c.args.reading.now) c.args.self.now c.add_reading.new.self takes) c.add_reading.ensures
