use Rattle.std.proofs.Common.{[]}
use Rattle.program_ends.proofs.Telling.{has_nothing}
use Rattle.program_ends.proofs.ending.end_at_once.Goals as goal

pub returns : goal.returns
returns g c =
    let begun = g.K.Sink.outflow c.args.output.now in
    c.end_run.ensures begun [] [] (has_nothing c.args.end begun c.requires)
