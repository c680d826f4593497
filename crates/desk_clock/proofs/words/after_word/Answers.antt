use Rattle.std.proofs.Common.{ap, ◌∙◌, sym}
use Rattle.desk_clock.specs.Words.{past_blanks}
use Rattle.hazard_types.specs.Characters.{is_blank}
use Rattle.desk_clock.proofs.Places.{dropped, empty_end, none_left}
use Rattle.desk_clock.proofs.words.after_word.Goals as goal

pub returns-in-Some : goal.returns-in-Some
returns-in-Some c = c.past_blanks.ensures ∙ ap past_blanks (dropped is_blank c.args.b.now c.in-Some.end c.in-Some.ensures)

pub returns-in-None : goal.returns-in-None
returns-in-None c = empty_end c.args.b.now ∙ ap past_blanks (sym (none_left is_blank c.args.b.now c.in-None.ensures))
