-- The event's rows tell whether there are any.
use Rattle.std.proofs.Common.{◌∙◌}
use Rattle.row_index.proofs.HeldRows.{has_rows-of}
use Rattle.row_index.proofs.index.RowIndex.has_rows.Goals as goal

pub returns : goal.returns
returns c = c.has_rows.ensures ∙ has_rows-of c.args.self.now c.args.rows.now c.args.line.now.event c.requires
