-- The row of the event in the zone says all that is asked of the rows.
use Rattle.std.proofs.Common.{◌∙◌, sym}
use Rattle.row_index.proofs.Alone.{row_after-own, row_after-opened}
use Rattle.row_index.proofs.index.RowIndex.row_after.Goals as goal

pub returns-in-Some : goal.returns-in-Some
returns-in-Some c = c.row_after-in-Some.ensures ∙ row_after-own c.args.self.now c.args.t c.args.line.now c.in-Some.own (sym c.own_row.ensures ∙ c.in-Some.is)

pub returns-then-opens : goal.returns-then-opens
returns-then-opens c = c.row_after.ensures ∙ row_after-opened c.args.self.now c.args.t c.args.line.now (sym c.opens.ensures ∙ c.if-opens.true)
