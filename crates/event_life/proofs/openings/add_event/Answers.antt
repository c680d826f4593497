-- An event comes among those of a set as it does into a list in order.
use Rattle.std.proofs.Common.{◌∙◌}
use Rattle.event_life.proofs.OpenedLemmas.{key-added}
use Rattle.event_life.proofs.openings.add_event.Goals as goal

pub returns : goal.returns
returns c = c.in_ok-insert.ensures.keys ∙ key-added c.args.event.now c.args.events.now.keys
