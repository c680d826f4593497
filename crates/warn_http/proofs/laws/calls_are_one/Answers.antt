use Rattle.warn_http.proofs.Causes.{one_call}
use Rattle.warn_http.proofs.Streams.{one_stream}
use Rattle.warn_http.proofs.laws.calls_are_one.Goals as goal

pub returns-clause-call : goal.returns-clause-call
returns-clause-call c = one_call

pub returns-clause-calls : goal.returns-clause-calls
returns-clause-calls c = one_stream
