-- those that are held at the spot answer for the intents
use Rattle.std.proofs.Common.{◌≡◌, ◌∙◌, ap, rules}
use Rattle.action_planner.specs.Spoken.{speakers_at, spots_from}
use Rattle.action_planner.proofs.SpokenLemmas.{any_speaks, any_takes, any_other}
use Rattle.action_planner.proofs.spoken.Spoken.intents_on.Goals as goal

pub returns : goal.returns
returns c =
    let ps = c.args.self.now in
    let spots = c.self.inside.spots.entries in
    let e = c.args.event.now in
    let z = c.args.zone.now in
    let held = c.copied.result in
    let is : held ≡ speakers_at spots (record { event = e; zone = z }) = search rules in
    let of = c.self.invariant.spoken ∙ ap (spots_from _) c.self.view_is in
    record { spoken = any_speaks spots ps e z held is of; taken = any_takes spots ps e z held is of; others = any_other spots ps e z held is of }
