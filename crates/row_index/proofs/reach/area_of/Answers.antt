-- The letters and the number, as they are defined.
use Rattle.std.proofs.Common.{rules}
use Rattle.row_index.specs.Reaching.{area_of}
use Rattle.row_index.proofs.reach.area_of.Goals as goal

pub returns : goal.returns
unfolding area_of
returns c = search rules
