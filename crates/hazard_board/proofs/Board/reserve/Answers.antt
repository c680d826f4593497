-- There are no more periods than spots, and as many spots as rows.
use Rattle.std.proofs.Common.{ap, arith}
use Rattle.hazard_board.specs.Board.{Posted}
use Rattle.hazard_board.proofs.PeriodLemmas.{few_counts, either_way}
use Rattle.hazard_board.proofs.Board.reserve.Goals as goal

pub overflow_sub-fewer : goal.overflow_sub-fewer
overflow_sub-fewer c =
    let few = few_counts c.self.inside.rows.rows c.self.inside.periods.items c.self.invariant.3 in
    omega (arith, few, c.self.invariant.2.count, c.len.ensures, c.len-2.ensures, c.in_ok-reserve-3.ensures.len, c.self.inside.periods.ok.0, c.self.inside.spots.ok.0)

pub returns-in_err-reserve-4-clause-err : goal.returns-in_err-reserve-4-clause-err
returns-in_err-reserve-4-clause-err c =
    let few = few_counts c.self.inside.rows.rows c.self.inside.periods.items c.self.invariant.3 in
    let spare = ap (λ (p : Posted). p.spare) c.self.view_is in
    either_way c.from_residual-in_err-reserve-4.result _
    (omega (arith, few, spare, c.self.invariant.2.count, c.in_err-reserve-4.ensures.full, c.len.ensures, c.len-2.ensures, c.in_ok-reserve-3.ensures.len, c.self.inside.periods.ok.0, c.self.inside.spots.ok.0))
