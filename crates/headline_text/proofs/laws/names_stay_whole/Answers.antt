use Rattle.headline_text.proofs.NameLaws.{lines_pass, lines_begin, lines_short, lines_whole, lines_unbroken, lines_end}
use Rattle.headline_text.proofs.laws.names_stay_whole.Goals as goal

pub returns : goal.returns
returns c = record { bytes = λ p names hyphen break h. lines_pass p hyphen break names h; begins = lines_begin; short = lines_short; whole = lines_whole; unbroken = lines_unbroken; ends = lines_end }
