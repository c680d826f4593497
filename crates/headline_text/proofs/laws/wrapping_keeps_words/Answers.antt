use Rattle.std.proofs.Common.{ℕ, ◌≡◌, ◌==◌, false, arith}
use Rattle.std.proofs.lemmas.Bool.Decides.{nat_tests}
use Rattle.headline_text.proofs.WrapLaws.{wrapped_passes, wrapped_begins, wrapped_short, wrapped_indented, wrapped_filled, wrapped_whole}
use Rattle.headline_text.proofs.WholeWords.{wrapped_uncut, wrapped_full}
use Rattle.headline_text.proofs.laws.wrapping_keeps_words.Goals as goal

other_byte : (c : ℕ) → (c ≡ 32 → ⊥) → (c == 32) ≡ false
other_byte c differs = grind (arith, nat_tests)

pub returns : goal.returns
returns c = record { bytes = λ p text blank break h. wrapped_passes p blank break text h; begins = λ b bs differs. wrapped_begins b bs (other_byte b differs); short = wrapped_short; indented = wrapped_indented; filled = wrapped_filled; whole = wrapped_whole; uncut = wrapped_uncut; full = wrapped_full }
