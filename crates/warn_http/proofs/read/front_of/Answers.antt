use Rattle.std.proofs.Common.{sym, arith, length, ◌≤◌}
use Rattle.std.proofs.lemmas.List.{take_all}
use Rattle.warn_http.proofs.read.front_of.Goals as goal

pub returns-then-bytes-lt-MOST_BYTES-clause-front :
    goal.returns-then-bytes-lt-MOST_BYTES-clause-front
returns-then-bytes-lt-MOST_BYTES-clause-front c =
    let short : length c.args.bytes.now ≤ 8192 = omega arith in
    sym (take_all 8192 c.args.bytes.now short)
