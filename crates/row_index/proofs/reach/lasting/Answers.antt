-- The keys from the front of the area to its back.
use Rattle.row_index.proofs.Reached.{area-forward}
use Rattle.row_index.proofs.reach.lasting.Goals as goal

pub range-requires : goal.range-requires
range-requires c = area-forward c.args.area

pub returns : goal.returns
returns c = c.range.ensures.between tt
