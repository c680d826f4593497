-- No seats are among none.
use Rattle.std.proofs.Common.{None}
use Rattle.row_index.proofs.Saying.{free-none}
use Rattle.row_index.proofs.spoken.SeenKeys.new.Goals as goal

pub returns-clause-free : goal.returns-clause-free
returns-clause-free c = free-none None _ c.new.ensures.items
