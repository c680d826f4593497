-- Reading that stops.
use Rattle.std.proofs.Common.{◌≡◌, Result, Ok, Err, IsErrAnd, ap}
use Rattle.program_ends.specs.declared.reading.Stop.{Stop}

-- the reason of a result that has it
pub stops_by : {T : Type 0} (result : Result T Stop) (why : Stop) → IsErrAnd result (λ e. e ≡ why) → result ≡ Err why
stops_by (Ok x) why h = absurd h
stops_by (Err e) why h = ap (λ (s : Stop). Err s) h
