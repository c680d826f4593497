-- A row that counts alike changes nothing.
use Rattle.std.proofs.Common.{◌∙◌, sym, ap, ◌+◌}
use Rattle.hazard_board.specs.Periods.{counted}
use Rattle.hazard_board.proofs.PeriodLemmas.{alike_counts}
use Rattle.hazard_board.proofs.periods.update_counts_for_put.Goals as goal

pub returns-then-count_alike-clause-told : goal.returns-then-count_alike-clause-told
returns-then-count_alike-clause-told c q = ap (λ n. counted q c.args.periods.now.items + n) (alike_counts c.args.old.now c.args.row.now (sym c.count_alike.ensures ∙ c.if-count_alike.true) q)
