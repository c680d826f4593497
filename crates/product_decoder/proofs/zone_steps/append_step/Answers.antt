-- The chain at a step is the one before it, and the step.
use Rattle.std.proofs.Common.{◌≡◌, ◌∙◌, ◌++◌, length, reverse, slice_get, Some, None, refl}
use Rattle.std.proofs.lemmas.Option.{slice_get_read, slice_get_past}
use Rattle.product_decoder.specs.Chains.{told, chains_of}
use Rattle.product_decoder.proofs.ChainLemmas.{told_back, told_past}
use Rattle.product_decoder.proofs.zone_steps.append_step.Goals as goal

pub returns-in_ok-push-in-Some-clause-told : goal.returns-in_ok-push-in-Some-clause-told
returns-in_ok-push-in-Some-clause-told c =
    let shared = c.args.shared.now in
    let found : slice_get shared c.args.place ≡ Some c.in-Some.step.now = slice_get_read shared (length shared) c.args.place c.in-Some.step.now refl c.in-Some.ensures.lookup.3.0 c.in-Some.ensures.lookup.1 in
    (λ i. told (chains_of shared) (c.before-in-Some.ensures i) ++ reverse c.push.new.self.items)
    ∙ told_back shared c.args.place c.in-Some.step.now c.args.steps.now.items c.push.new.self.items found c.in_ok-push-in-Some.ensures.items

pub returns-in-None-clause-told : goal.returns-in-None-clause-told
returns-in-None-clause-told c =
    let none : slice_get c.args.shared.now c.args.place ≡ None = slice_get_past c.args.shared.now c.args.place c.in-None.ensures.lookup.3 in
    told_past c.args.shared.now c.args.place c.args.steps.now.items none
