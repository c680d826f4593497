use Rattle.std.proofs.Common.{inr, refl}
use Rattle.desk_commands.specs.Commands.{joined}
use Rattle.desk_commands.proofs.Staying.{unchanged}
use Rattle.desk_commands.proofs.export.run_export.Goals as goal

pub returns-in-Ok : goal.returns-in-Ok
returns-in-Ok g c =
    let d = g.D.Disk in
    let laws = g.met.D.Disk in
    let sink = g.K.Sink in
    let exported = c.write_products-end.ensures in
    rw c.into_disk.ensures (inr (record {
      opened = c.in-Ok.kept;
      first = c.in-Ok.ensures.opened;
      told = record {
        first = exported.first;
        rest = exported.rest;
        are = exported.are;
        end = c.write_products-end.result;
        reasons = exported.reasons;
        telling = c.end_run.ensures (sink.outflow c.args.output.now) (joined exported.first) exported.written exported.has;
      };
      handed = refl;
      history = unchanged d laws.seen_is_left laws.are_crashes c.requests_stand_once.ensures c.args.disk c.in-Ok.kept c.a_crash_leaves_the_history.ensures c.in-Ok.ensures.opened;
      later = c.in-Ok.ensures.opened.later;
    }))
