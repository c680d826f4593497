use Rattle.std.proofs.Common.{inr}
use Rattle.serve_command.proofs.serving.run_serve.Goals as goal

pub returns-in-Ok : goal.returns-in-Ok
returns-in-Ok g c = inr (c.serve_office.ensures c.args.disk c.in-Ok.ensures.opened)
