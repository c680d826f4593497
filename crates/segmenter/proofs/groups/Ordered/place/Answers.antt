-- A line that is placed leaves the lines in order.
use Rattle.std.proofs.Common.{◌≡◌, ◌∙◌, List, insert, sym, subst}
use Rattle.hazard_types.specs.declared.line.SegLine.{SegLine}
use Rattle.segmenter.specs.Groups.{placed}
use Rattle.segmenter.specs.Laws.{AreInOrder}
use Rattle.segmenter.proofs.OrderLemmas.{order_placed}
use Rattle.segmenter.proofs.groups.Ordered.place.Goals as goal

pub invariant_of-self-2 : goal.invariant_of-self-2
invariant_of-self-2 c =
    let told = subst (λ (lines : List SegLine). insert lines c.insertion_index-place.result c.args.line.now ≡ placed c.args.line.now lines) c.deref.ensures.value c.insertion_index-place.ensures.placed in
    subst AreInOrder (sym (c.in_ok-insert.ensures.items ∙ told)) (order_placed c.args.line.now c.self.inside.lines.items c.self.invariant)
