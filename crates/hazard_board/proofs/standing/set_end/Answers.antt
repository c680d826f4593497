-- An end that is put or left out is that of its event alone.
use Rattle.hazard_board.proofs.StandingLemmas.{end_put, end_left, put_in_order, left_in_order}
use Rattle.hazard_board.proofs.standing.set_end.Goals as goal

pub returns-in-Some-clause-order : goal.returns-in-Some-clause-order
returns-in-Some-clause-order c = rw (c.insert_standing.ensures.items) (put_in_order _ c.args.standing.now.items c.requires.order)

pub returns-in-Some-clause-ends : goal.returns-in-Some-clause-ends
returns-in-Some-clause-ends c d = rw (c.insert_standing.ensures.items, c.in-Some.is) (end_put _ c.args.standing.now.items d)

pub returns-in-None-clause-order : goal.returns-in-None-clause-order
returns-in-None-clause-order c = rw (c.take_out.ensures.items) (left_in_order c.args.e.now c.args.standing.now.items c.requires.order)

pub returns-in-None-clause-ends : goal.returns-in-None-clause-ends
returns-in-None-clause-ends c d = rw (c.take_out.ensures.items, c.in-None.is) (end_left c.args.e.now c.args.standing.now.items d c.requires.order)
