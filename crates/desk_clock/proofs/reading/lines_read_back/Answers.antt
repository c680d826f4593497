use Rattle.desk_clock.proofs.RoundTrip.{reads_back}
use Rattle.desk_clock.proofs.reading.lines_read_back.Goals as goal

pub returns : goal.returns
returns c = reads_back
