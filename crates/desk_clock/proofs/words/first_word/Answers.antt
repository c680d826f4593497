use Rattle.hazard_types.specs.Characters.{is_blank}
use Rattle.desk_clock.proofs.Places.{taken_whole}
use Rattle.desk_clock.proofs.words.first_word.Goals as goal

pub returns-in-None : goal.returns-in-None
returns-in-None c = taken_whole is_blank c.args.b.now c.in-None.ensures
