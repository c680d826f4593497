use Rattle.warn_http.proofs.Streams.{cut_more}
use Rattle.warn_http.proofs.laws.calls_go_on.Goals as goal

pub returns : goal.returns
returns c = cut_more
