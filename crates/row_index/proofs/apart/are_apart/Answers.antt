-- No line is a second one, since zones rise.
use Rattle.std.proofs.Common.{sym}
use Rattle.row_index.proofs.Firsts.{first-rising}
use Rattle.row_index.proofs.apart.are_apart.Goals as goal

pub returns-then-all_rise-clause-first : goal.returns-then-all_rise-clause-first
returns-then-all_rise-clause-first c = λ _. first-rising c.args.parts.now (sym c.if-all_rise.ensures) (c.in_ok-own.ensures c.if-not-own.false)
