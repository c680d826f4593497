-- The run over the lines is one of notices.
use Rattle.std.proofs.Common.{subst}
use Rattle.byte_streams.specs.Flows.{streams}
use Rattle.program_ends.specs.Runs.{IsLinesRun}
use Rattle.county_notices.specs.Answers.{AnswersLine, LacksLine}
use Rattle.county_notices.specs.Commands.{Noticed}
use Rattle.county_notices.proofs.RunLemmas.{runs}
use Rattle.county_notices.proofs.run.answer_lines.Goals as goal

pub returns : goal.returns
returns g c =
    let before = streams (g.S.Source.inflow c.args.input.now) (g.K.Sink.outflow c.args.output.now) in
    let after = streams (g.S.Source.inflow c.run_lines.new.input) (g.K.Sink.outflow c.run_lines.new.output) in
    runs c.args.issuer c.args.limit c.run_lines.new.answers before after c.run_lines.result c.requires.office
    (subst (λ (s : Noticed). IsLinesRun AnswersLine LacksLine c.args.limit s c.run_lines.new.answers before after c.run_lines.result)
    c.new-notices.ensures c.run_lines.ensures)
