-- The row of an event in a zone is the first that is not before it, if any.
use Rattle.std.proofs.Common.{◌∙◌, sym, ap, is_eq, arith}
use Rattle.hazard_types.specs.declared.line.Row.{Row}
use Rattle.hazard_board.specs.Board.{compare_row_key}
use Rattle.hazard_board.proofs.KeySearch.{keys_rise, found_tied}
use Rattle.hazard_board.proofs.Runs.{found_there, not_this, past_all}
use Rattle.hazard_board.proofs.searches.row_at.Goals as goal

pub returns-then-place-rows : goal.returns-then-place-rows
returns-then-place-rows c =
    sym (found_tied c.args.e.now c.args.z.now c.args.rows.now ∙ past_all (λ (r : Row). compare_row_key c.args.e.now c.args.z.now r) c.args.rows.now c.keys_below-place.result (keys_rise c.args.e.now c.args.z.now c.args.rows.now c.requires) c.keys_below-place.ensures.value c.if-place-rows.true)

pub returns-then-is_eq : goal.returns-then-is_eq
returns-then-is_eq c =
    sym (found_tied c.args.e.now c.args.z.now c.args.rows.now ∙ found_there (λ (r : Row). compare_row_key c.args.e.now c.args.z.now r) c.args.rows.now c.keys_below-place.result c.index-rows-place.result c.keys_below-place.ensures.value (omega (arith, c.if-place-rows.false)) c.index-rows-place.is
    (sym (ap is_eq c.compare_row_key.ensures) ∙ sym c.is_eq.ensures ∙ c.if-is_eq.true))

pub returns-else-is_eq : goal.returns-else-is_eq
returns-else-is_eq c =
    sym (found_tied c.args.e.now c.args.z.now c.args.rows.now ∙ not_this (λ (r : Row). compare_row_key c.args.e.now c.args.z.now r) c.args.rows.now c.keys_below-place.result c.index-rows-place.result (keys_rise c.args.e.now c.args.z.now c.args.rows.now c.requires) c.keys_below-place.ensures.value (omega (arith, c.if-place-rows.false)) c.index-rows-place.is
    (sym (ap is_eq c.compare_row_key.ensures) ∙ sym c.is_eq.ensures ∙ c.if-is_eq.false))
