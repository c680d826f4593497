-- The place of the zone's last step is that of the step.
use Rattle.std.proofs.lemmas.Result.{on_ok_weaker}
use Rattle.product_decoder.proofs.ChainLemmas.{step_put, within_put}
use Rattle.product_decoder.proofs.zone_steps.add_step.Goals as goal

pub returns-clause-put : goal.returns-clause-put
returns-clause-put c =
    on_ok_weaker c.set.result
    (λ is. step_put c.args.shared.now.items c.place_of.new.shared.items c.args.lasts.now c.set.new.self c.args.zone.now (c.args.action.now, c.args.issue.now) c.get-before.result c.in_ok-place.place c.in_ok-place.ensures c.get-before.ensures.value is c.requires.within)
    c.set.ensures.set

pub returns-clause-within : goal.returns-clause-within
returns-clause-within c =
    on_ok_weaker c.set.result
    (λ is. within_put c.args.shared.now.items c.place_of.new.shared.items c.args.lasts.now c.set.new.self c.args.zone.now (c.args.action.now, c.args.issue.now) c.get-before.result c.in_ok-place.place c.in_ok-place.ensures is c.requires.within)
    c.set.ensures.set
