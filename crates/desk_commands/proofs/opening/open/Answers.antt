use Rattle.desk_commands.proofs.opening.open.Goals as goal

pub returns-in-Ok-clause-opened : goal.returns-in-Ok-clause-opened
returns-in-Ok-clause-opened g c =
    let ensures = c.in-Ok.ensures in
    record {
      found = λ bytes told. let found = ensures.ok bytes told in (found.0, found.1, found.2, found.3);
      legal = ensures.legal;
      reads = ensures.reads;
      same = ensures.seen;
      steady = ensures.steady;
      later = ensures.later;
      moments = ensures.any_moment;
      settled = ensures.settled;
    }
