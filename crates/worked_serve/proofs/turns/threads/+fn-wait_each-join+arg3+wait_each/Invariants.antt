use Rattle.worked_serve.proofs.turns.threads.+fn-wait_each-join+arg3+wait_each.Given as goal

abbrev pub decreases-join+arg3 : goal.decreases-join+arg3
decreases-join+arg3 g l = l.left

abbrev pub decreases-wait_each : goal.decreases-wait_each
decreases-wait_each g l = l.waiting
