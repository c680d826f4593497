-- The rows from the front of the zone to its back.
use Rattle.std.proofs.Common.{◌∙◌, ap}
use Rattle.std.specs.Map.{values_of}
use Rattle.row_index.proofs.Seated.{between-in, front_first}
use Rattle.row_index.proofs.seats.seated_in.Goals as goal

pub range-requires : goal.range-requires
range-requires c = front_first c.args.zone.now

pub returns : goal.returns
returns c = ap values_of (c.range.ensures.between tt) ∙ between-in c.args.zone.now c.args.seated.now.entries c.requires
