-- what is copied so far
use Rattle.std.proofs.Common.{◌≡◌, take}
use Rattle.office_core.proofs.copies.copied_intents.Given as goal

abbrev pub invariant-loop-intent : goal.invariant-loop-intent
invariant-loop-intent l = l.copy ≡ take l.intent-index l.intents
