use Rattle.std.proofs.Common.{inr}
use Rattle.desk_commands.proofs.script.run_script.Goals as goal

pub returns-in-Ok : goal.returns-in-Ok
returns-in-Ok g c = inr (c.answer_script.ensures c.args.disk c.in-Ok.ensures.opened)
