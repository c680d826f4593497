use Rattle.std.proofs.Common.{◌∙◌, sym}
use Rattle.product_frame.proofs.LineEnds.{kept_to}
use Rattle.product_frame.proofs.text.trimmed.Goals as goal

pub returns-then-not-is_left_out : goal.returns-then-not-is_left_out
returns-then-not-is_left_out c = sym (kept_to c.args.line.now c.loop-last.last c.loop-last-test.true c.loop-last.auto.last (sym c.is_left_out.ensures ∙ c.if-not-is_left_out.true) c.loop-last.invariant)
