use Rattle.std.proofs.Common.{length}
use Rattle.desk_traits.proofs.Recorded.{untold_write}
use Rattle.desk_traits.proofs.sure_disk.SureDiskDisk.write_at.Goals as goal

pub returns-clause-crash : goal.returns-clause-crash
returns-clause-crash c = untold_write c.args.at (length c.args.bytes.now)
