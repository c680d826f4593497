use Rattle.std.proofs.Common.{sym, ◌∙◌}
use Rattle.request_json.proofs.EachTexts.{one_more}
use Rattle.request_json.proofs.fields.each_event_texts.Goals as goal

pub loop-value-preserved : goal.loop-value-preserved
loop-value-preserved c =
    one_more c.args.values.now c.loop-value.value-index c.value-item.result c.loop-value.list c.push.new.self c.in-Some.texts
    c.loop-value-test.true c.value-item.is c.loop-value.invariant (sym c.in_ok-texts.ensures ∙ c.in-Some.is) c.in_ok-push.ensures.ok
