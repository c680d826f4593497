use Rattle.desk_commands.proofs.Making.{made, unmade}
use Rattle.desk_commands.proofs.init.make.Goals as goal

pub returns-in-Ok-clause-made : goal.returns-in-Ok-clause-made
returns-in-Ok-clause-made g c =
    let ensures = c.in-Ok.ensures in
    made g.D.Disk g.met.D.Disk.seen_is_left c.args.disk c.in-Ok.kept c.args.settings.now c.a_crash_leaves_the_history.ensures ensures.fresh ensures.ok ensures.made

pub returns-in-Err-clause-made : goal.returns-in-Err-clause-made
returns-in-Err-clause-made g c =
    let ensures = c.in-Err.ensures in
    unmade g.D.Disk c.args.disk c.in-Err.disk c.args.settings.now c.in-Err.fault c.end_of-end.result c.end_of-end.ensures ensures.settings ensures.settings_fresh ensures.not_fresh ensures.cause ensures.same ensures.untouched ensures.steady
