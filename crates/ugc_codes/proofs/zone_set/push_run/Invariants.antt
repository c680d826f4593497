use Rattle.ugc_codes.proofs.Risen.{Rises}
use Rattle.ugc_codes.proofs.zone_set.push_run.Given as goal

abbrev pub invariant-loop-number : goal.invariant-loop-number
invariant-loop-number l = Rises l.initial.rising l.first l.number-end l.number l.rising
