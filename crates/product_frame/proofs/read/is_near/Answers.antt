use Rattle.product_frame.proofs.Nearness.{near_is}
use Rattle.product_frame.proofs.read.is_near.Goals as goal

pub returns : goal.returns
returns c = near_is c.args.issue c.args.day c.has_near_day_stamp.result c.has_near_day_stamp.ensures
