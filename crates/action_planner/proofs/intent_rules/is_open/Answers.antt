-- An event is open where it is the going one of its hazard and number.
use Rattle.std.proofs.Common.{◌∙◌, ap}
use Rattle.action_planner.proofs.GoingLemmas.{is_it, going_decides_open}
use Rattle.action_planner.proofs.intent_rules.is_open.Goals as goal

pub returns-in-Some : goal.returns-in-Some
returns-in-Some c = c.eq.ensures ∙ ap (is_it c.args.event.now) c.in-Some.ensures ∙ going_decides_open c.args.board.now.rows c.args.t c.args.event.now c.requires

pub returns-in-None : goal.returns-in-None
returns-in-None c = ap (is_it c.args.event.now) c.in-None.ensures ∙ going_decides_open c.args.board.now.rows c.args.t c.args.event.now c.requires
