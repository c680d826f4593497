use Rattle.std.proofs.Common.{rules, ◌≤◌, length, ◌∙◌, sym, subst}
use Rattle.std.specs.List.{All}
use Rattle.std.proofs.lemmas.List.Elements.{All-push}
use Rattle.product_frame.proofs.LineEnds.{next_added, all_added}
use Rattle.product_frame.proofs.text.add_starts.Goals as goal

pub loop-next-preserved : goal.loop-next-preserved
loop-next-preserved c = record {
  inside = search rules;
  within = subst (All (λ start. start ≤ length c.args.bytes.now)) (sym c.in_ok-push.ensures.ok) (All-push (λ start. start ≤ length c.args.bytes.now) c.loop-next.list c.in-Some.next c.loop-next.invariant.within (search rules));
  whole = next_added c.args.bytes.now c.loop-next.list c.push.new.self _ c.loop-next.at c.in-Some.next c.in-Some.ensures.value c.in_ok-push.ensures.ok c.loop-next.invariant.whole;
}

pub returns-clause-value : goal.returns-clause-value
returns-clause-value c = all_added c.args.bytes.now c.loop-next.list _ c.loop-next.at (sym c.in_default.is ∙ c.next_start.ensures.value) c.loop-next.invariant.whole
