use Rattle.std.proofs.Common.{[]}
use Rattle.program_ends.proofs.Parts.{parted}
use Rattle.program_ends.proofs.laws.lines_make_up_the_input.Goals as goal

pub returns : goal.returns
returns c = λ bytes. parted [] bytes tt
