-- The step is the last, or is put behind it.
use Rattle.std.proofs.Common.{◌-◌, rules}
use Rattle.product_decoder.proofs.ChainLemmas.{placed_push, placed_last}
use Rattle.product_decoder.proofs.zone_steps.place_of.Goals as goal

pub returns-then-is_last : goal.returns-then-is_last
returns-then-is_last c =
    placed_last c.args.shared.now.items (c.in-Ok.place - 1) (c.args.action.now, c.args.issue.now) c.args.before (search rules)

pub returns : goal.returns
returns c =
    placed_push c.args.shared.now.items c.push.new.self.items (record { action = c.args.action.now; issue = c.args.issue.now; before = c.args.before }) c.in-Ok.place c.in_ok-push.ensures.items (search rules)
