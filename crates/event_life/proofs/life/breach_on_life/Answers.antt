-- What the ending lines share comes first, then what is their own.
use Rattle.event_life.proofs.Steps.{ending_or}
use Rattle.event_life.proofs.life.breach_on_life.Goals as goal

pub returns-in-Can : goal.returns-in-Can
returns-in-Can c = rw (c.in-Can.is, ending_or c.args.life.now c.args.line.now c.args.t, ← c.ending_breach.ensures, ← c.can_breach.ensures) c.or.ensures

pub returns-in-Exp : goal.returns-in-Exp
returns-in-Exp c = rw (c.in-Exp.is, ending_or c.args.life.now c.args.line.now c.args.t, ← c.ending_breach-in-Exp.ensures, ← c.exp_breach.ensures) c.or-in-Exp.ensures

pub returns-in-Upg : goal.returns-in-Upg
returns-in-Upg c = rw (c.in-Upg.is, ending_or c.args.life.now c.args.line.now c.args.t, ← c.ending_breach-in-Upg.ensures, ← c.upg_breach.ensures) c.or-in-Upg.ensures
