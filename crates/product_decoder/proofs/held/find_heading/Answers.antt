-- A whole line more, and what is found.
use Rattle.std.proofs.Common.{rules, ◌∙◌, sym}
use Rattle.product_decoder.proofs.Holding.{scan_begun, scan_passed, scan_headed, scan_ended}
use Rattle.product_decoder.proofs.held.find_heading.Goals as goal

pub loop-end-init : goal.loop-end-init
loop-end-init c = record { inside = search rules; scanned = scan_begun c.args.bytes.now c.args.from c.args.looked c.requires.order c.requires.quiet }

pub returns-then-is_heading_at : goal.returns-then-is_heading_at
returns-then-is_heading_at c = scan_headed c.args.bytes.now c.args.from c.loop-end.start c.loop-end.at c.in-Some.end c.loop-end.invariant.scanned c.in-Some.ensures.value (sym c.is_heading_at.ensures ∙ c.if-is_heading_at.true)

pub loop-end-preserved : goal.loop-end-preserved
loop-end-preserved c = record {
  inside = search rules;
  scanned = scan_passed c.args.bytes.now c.args.from c.loop-end.start c.loop-end.at c.in-Some.end c.loop-end.invariant.scanned c.in-Some.ensures.value (sym c.is_heading_at.ensures ∙ c.if-is_heading_at.false);
}

pub returns : goal.returns
returns c = scan_ended c.args.bytes.now c.args.from c.loop-end.start c.loop-end.at c.loop-end.invariant.scanned c.loop-end.invariant.inside (sym c.in_default.is ∙ c.next_start.ensures.value)
