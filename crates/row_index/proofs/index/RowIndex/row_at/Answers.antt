-- The row is found among those of its event.
use Rattle.std.proofs.Common.{◌∙◌, sym}
use Rattle.row_index.proofs.index.RowIndex.row_at.Goals as goal

pub returns : goal.returns
returns c = c.row_at.ensures ∙ sym (c.rows_of.ensures.found c.args.zone.now)
