-- The row is found among those of its event.
use Rattle.std.proofs.Common.{◌∙◌, sym}
use Rattle.row_index.proofs.index.RowIndex.own_row.Goals as goal

pub returns : goal.returns
returns c = c.row_at.ensures ∙ sym (c.requires.found c.args.line.now.zone)
