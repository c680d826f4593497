use Rattle.std.proofs.Common.{rules, ◌∙◌, sym}
use Rattle.product_frame.proofs.HeadingPlaces.{found_next, passed_next, none_next}
use Rattle.product_frame.proofs.read.later_heading.Goals as goal

pub returns-then-is_heading_at-clause-value : goal.returns-then-is_heading_at-clause-value
returns-then-is_heading_at-clause-value c =
    sym (found_next c.args.bytes.now c.loop-next.at c.in-Some.next c.in-Some.ensures.value (sym c.is_heading_at.ensures ∙ c.if-is_heading_at.true)) ∙ c.loop-next.invariant.whole

pub loop-next-preserved : goal.loop-next-preserved
loop-next-preserved c = record {
  inside = search rules;
  whole = passed_next c.args.bytes.now c.loop-next.at c.in-Some.next c.in-Some.ensures.value (sym c.is_heading_at.ensures ∙ c.if-is_heading_at.false) ∙ c.loop-next.invariant.whole;
}

pub returns-clause-value : goal.returns-clause-value
returns-clause-value c = sym (none_next c.args.bytes.now c.loop-next.at (sym c.in_default.is ∙ c.next_start.ensures.value)) ∙ c.loop-next.invariant.whole
