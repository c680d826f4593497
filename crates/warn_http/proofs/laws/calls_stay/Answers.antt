use Rattle.warn_http.proofs.Streams.{call_stays, refused_stays}
use Rattle.warn_http.proofs.laws.calls_stay.Goals as goal

pub returns-clause-call : goal.returns-clause-call
returns-clause-call c = call_stays

pub returns-clause-refused : goal.returns-clause-refused
returns-clause-refused c = refused_stays
