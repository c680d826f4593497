use Rattle.std.proofs.Common.{◌∙◌, Ok, ap}
use Rattle.worked_office.proofs.office.answers.submit.Goals as goal

pub committed-requires : goal.committed-requires
committed-requires c = (c.prepare.ensures.ready c.in-New.prepared (c.in-Ok.is ∙ ap (λ z. Ok z) c.in-New.is)).may
