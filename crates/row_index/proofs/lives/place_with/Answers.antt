-- The life stands at the place that is guessed.
use Rattle.std.proofs.Common.{rules}
use Rattle.row_index.proofs.SharedRows.{placed-there}
use Rattle.row_index.proofs.lives.place_with.Goals as goal

pub returns-then-is_life : goal.returns-then-is_life
returns-then-is_life c = placed-there c.args.lives.now.items c.args.near c.args.life.now (search rules)
