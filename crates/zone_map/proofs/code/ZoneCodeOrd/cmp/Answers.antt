use Rattle.std.proofs.Common.{◌∙◌}
use Rattle.zone_map.proofs.Coded.{order_of}
use Rattle.zone_map.proofs.code.ZoneCodeOrd.cmp.Goals as goal

pub returns : goal.returns
returns c = rw (← c.self.view_is, ← c.other.view_is) (c.cmp.ensures ∙ order_of c.self.inside.code c.other.inside.code c.self.invariant c.other.invariant)
