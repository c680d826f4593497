use Rattle.std.proofs.Common.{ap, ◌∙◌, sym, ℕ, ◌==◌}
use Rattle.desk_clock.specs.Words.{past_gap}
use Rattle.desk_clock.proofs.Places.{behind, empty_end, none_behind}
use Rattle.desk_clock.proofs.words.after_slash.Goals as goal

pub returns-in-Some : goal.returns-in-Some
returns-in-Some c = c.past_gap.ensures ∙ ap past_gap (behind (λ (x : ℕ). x == 47) c.args.b.now c.in-Some.end c.in-Some.ensures)

pub returns-in-None : goal.returns-in-None
returns-in-None c = empty_end c.args.b.now ∙ ap past_gap (sym (none_behind (λ (x : ℕ). x == 47) c.args.b.now c.in-None.ensures))
