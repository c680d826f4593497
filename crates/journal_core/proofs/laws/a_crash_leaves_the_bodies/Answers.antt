use Rattle.journal_core.proofs.Files.{rests_left}
use Rattle.journal_core.proofs.laws.a_crash_leaves_the_bodies.Goals as goal

pub returns : goal.returns
returns c = rests_left
