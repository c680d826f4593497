use Rattle.std.proofs.Common.{rules, ◌∙◌, sym}
use Rattle.product_frame.proofs.LineEnds.{next_added}
use Rattle.product_frame.proofs.HeadingPlaces.{passed_next}
use Rattle.product_frame.proofs.Listed.{product_before, product_whole, listed_before, listed_whole}
use Rattle.product_frame.proofs.read.list_lines.Goals as goal

pub returns-then-is_heading_at-clause-listed : goal.returns-then-is_heading_at-clause-listed
returns-then-is_heading_at-clause-listed c =
    let rest = c.args.rest.now in
    let front = product_before rest c.loop-next.at c.in-Some.next c.in-Some.ensures.value (sym c.is_heading_at.ensures ∙ c.if-is_heading_at.true) c.loop-next.invariant.whole in
    listed_before rest c.loop-next.places.items c.push.new.self.items c.loop-next.at c.in-Some.next (search rules) c.in-Some.ensures.value c.in_ok-push.ensures.items c.loop-next.invariant.listed front

pub returns-then-is_heading_at-clause-product : goal.returns-then-is_heading_at-clause-product
returns-then-is_heading_at-clause-product c =
    product_before c.args.rest.now c.loop-next.at c.in-Some.next c.in-Some.ensures.value (sym c.is_heading_at.ensures ∙ c.if-is_heading_at.true) c.loop-next.invariant.whole

pub loop-next-preserved : goal.loop-next-preserved
loop-next-preserved c = record {
  inside = search rules;
  listed = next_added c.args.rest.now c.loop-next.places.items c.push.new.self.items _ c.loop-next.at c.in-Some.next c.in-Some.ensures.value c.in_ok-push.ensures.items c.loop-next.invariant.listed;
  whole = passed_next c.args.rest.now c.loop-next.at c.in-Some.next c.in-Some.ensures.value (sym c.is_heading_at.ensures ∙ c.if-is_heading_at.false) ∙ c.loop-next.invariant.whole;
}

pub returns-clause-listed : goal.returns-clause-listed
returns-clause-listed c =
    let rest = c.args.rest.now in
    let none = sym c.in_default.is ∙ c.next_start.ensures.value in
    listed_whole rest c.loop-next.places.items c.loop-next.at none c.loop-next.invariant.listed (product_whole rest c.loop-next.at none c.loop-next.invariant.whole)

pub returns-clause-product : goal.returns-clause-product
returns-clause-product c = product_whole c.args.rest.now c.loop-next.at (sym c.in_default.is ∙ c.next_start.ensures.value) c.loop-next.invariant.whole
