use Rattle.std.proofs.Common.{arith}
use Rattle.desk_drill.proofs.Keeping.{no_fault}
use Rattle.desk_drill.proofs.desk.DrillDesk.breaches.Goals as goal

pub breaches-requires : goal.breaches-requires
breaches-requires c = omega (arith, no_fault c.args.self.now c.requires)
