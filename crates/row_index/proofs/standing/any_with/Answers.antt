-- The places stand in order.
use Rattle.row_index.proofs.Stood.{with_forward}
use Rattle.row_index.proofs.standing.any_with.Goals as goal

pub any_between-requires : goal.any_between-requires
any_between-requires c = with_forward c.args.period.now.end c.args.first c.args.last c.requires
