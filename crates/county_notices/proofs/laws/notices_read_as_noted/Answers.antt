-- Each notice is read off its text in turn.
use Rattle.county_notices.proofs.HistoryLemmas.{history_read}
use Rattle.county_notices.proofs.laws.notices_read_as_noted.Goals as goal

pub returns : goal.returns
returns c = history_read
