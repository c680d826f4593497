use Rattle.std.proofs.Common.{◌∷◌, take}
use Rattle.office_journal.specs.Replaying.{HasTaken}
use Rattle.office_journal.proofs.replay.replay_others.Given as goal

abbrev pub invariant-loop-body : goal.invariant-loop-body
invariant-loop-body l = HasTaken (l.file ∷ take l.body-index l.others) l.found
