use Rattle.warn_http.proofs.Short.{short_enough}
use Rattle.warn_http.proofs.laws.unfinished_calls_are_short.Goals as goal

pub returns : goal.returns
returns c = short_enough
