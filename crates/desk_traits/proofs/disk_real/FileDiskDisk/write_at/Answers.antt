use Rattle.std.proofs.Common.{length}
use Rattle.desk_traits.proofs.Recorded.{untold_write}
use Rattle.desk_traits.proofs.disk_real.FileDiskDisk.write_at.Goals as goal

pub returns-clause-crash : goal.returns-clause-crash
returns-clause-crash c = untold_write c.args.at (length c.args.bytes.now)

pub returns-2-clause-crash : goal.returns-2-clause-crash
returns-2-clause-crash c = untold_write c.args.at (length c.args.bytes.now)
