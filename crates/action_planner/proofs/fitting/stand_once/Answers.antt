-- Zones that ascend stand once.
use Rattle.std.proofs.Common.{◌∙◌, sym}
use Rattle.action_planner.proofs.OnceLemmas.{once_ascending}
use Rattle.action_planner.proofs.fitting.stand_once.Goals as goal

pub returns-then-ascend : goal.returns-then-ascend
returns-then-ascend c = sym (once_ascending c.args.zones.now (sym c.ascend.ensures ∙ c.if-ascend.true))
