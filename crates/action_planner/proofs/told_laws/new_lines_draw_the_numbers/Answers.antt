-- Both lists of numbers rise, and are of the same events.
use Rattle.action_planner.proofs.ToldLemmas.{new_numbers_alike}
use Rattle.action_planner.proofs.told_laws.new_lines_draw_the_numbers.Goals as goal

pub returns : goal.returns
returns c = new_numbers_alike
