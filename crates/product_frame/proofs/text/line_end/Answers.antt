use Rattle.product_frame.proofs.LineEnds.{first_is_end}
use Rattle.product_frame.proofs.text.line_end.Goals as goal

pub returns-clause-value : goal.returns-clause-value
returns-clause-value c = first_is_end c.args.rest.now c.memchr.result c.memchr.ensures
