-- One part more.
use Rattle.std.proofs.Common.{List, subst}
use Rattle.hazard_types.specs.declared.line.Line.{Line}
use Rattle.row_index.specs.Verdicts.{HaveOwnEvents}
use Rattle.row_index.proofs.Firsts.{own_parts}
use Rattle.row_index.proofs.apart.have_own_events.Goals as goal

pub loop-part-preserved : goal.loop-part-preserved
loop-part-preserved c =
    let own = subst (λ (lines : List Line). HaveOwnEvents lines) c.as_slice.ensures (c.in_ok-own.ensures c.if-not-own.false) in
    own_parts c.args.parts.now c.loop-part.part-index c.part-item.result c.loop-part-test.true c.part-item.is own c.loop-part.invariant
