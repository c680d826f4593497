use Rattle.std.proofs.Common.{ℕ, not}
use Rattle.hazard_types.specs.Characters.{is_blank}
use Rattle.desk_clock.proofs.Places.{dropped, dropped_whole}
use Rattle.desk_clock.proofs.words.past_blanks.Goals as goal

pub returns-in-Some : goal.returns-in-Some
returns-in-Some c = dropped (λ (x : ℕ). not (is_blank x)) c.args.b.now c.in-Some.from c.in-Some.ensures

pub returns-in-None : goal.returns-in-None
returns-in-None c = dropped_whole (λ (x : ℕ). not (is_blank x)) c.args.b.now c.in-None.ensures
