-- A command that breaks no rule by itself is not before the last one.
use Rattle.std.proofs.Common.{◌≡◌, ◌∙◌, None, sym}
use Rattle.county_notices.specs.Commands.{broken_by_itself}
use Rattle.county_notices.proofs.RuleLemmas.{comes_later, not_some}
use Rattle.county_notices.proofs.rules.broken.Goals as goal

pub broken_by_rows-requires : goal.broken_by_rows-requires
broken_by_rows-requires c =
    let none : broken_by_itself c.args.last c.args.command.now ≡ None = sym c.broken_by_itself-found.ensures ∙ not_some c.broken_by_itself-found.result (sym c.if-is_some.ensures) in
    c.consistent_rows_stay_consistent.ensures c.args.board.now.rows c.args.last c.args.command.now.at (comes_later c.args.last c.args.command.now none) c.requires
