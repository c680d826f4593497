use Rattle.event_life.proofs.PrintedLemmas.{line_of-printed}
use Rattle.event_life.proofs.laws.lawful_lines_read_back.Goals as goal

pub returns : goal.returns
returns c = line_of-printed
