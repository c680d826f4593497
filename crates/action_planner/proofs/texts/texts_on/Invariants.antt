-- the intents that are left decide as all do
use Rattle.std.proofs.Common.{◌≡◌, drop}
use Rattle.action_planner.specs.Texts.{texts_on}
use Rattle.action_planner.proofs.texts.texts_on.Given as goal

abbrev pub invariant-loop-p : goal.invariant-loop-p
invariant-loop-p l = texts_on (drop l.p-index l.ps) l.event ≡ texts_on l.ps l.event
