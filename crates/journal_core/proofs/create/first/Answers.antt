use Rattle.std.proofs.Common.{arith}
use Rattle.desk_traits.specs.declared.faults.Failed.{Failed}
use Rattle.journal_core.specs.Image.{Fits}
use Rattle.journal_core.proofs.Making.{making, made}
use Rattle.journal_core.proofs.create.first.Goals as goal

pub returns-clause-made : goal.returns-clause-made
returns-clause-made g c b =
    let fits : Fits c.args.body.now = omega arith in
    made g.D.Disk.seen g.D.Disk.crash g.met.D.Disk.are_crashes Failed tt c.write_synced-2.result c.args.disk.now c.write_synced.new.disk c.write_synced-2.new.disk c.framed.result.now c.args.body.now c.framed.ensures.value fits b c.in_ok-write_synced.ensures.seen c.in_ok-write_synced.ensures.durable c.write_synced-2.ensures.seen c.write_synced-2.ensures.durable

pub returns-clause-any_moment : goal.returns-clause-any_moment
returns-clause-any_moment g c b =
    let fits : Fits c.args.body.now = omega arith in
    making g.D.Disk.seen g.D.Disk.crash g.met.D.Disk.are_crashes Failed tt c.args.disk.now c.write_synced.new.disk c.write_synced-2.new.disk _ c.framed.result.now c.args.body.now c.framed.ensures.value fits b c.in_ok-write_synced.ensures.seen c.in_ok-write_synced.ensures.durable c.write_synced.ensures.crash c.write_synced-2.ensures.crash
