use Rattle.std.proofs.Common.{Ok, sym, ◌∙◌, ap}
use Rattle.office_journal.proofs.Taking.{no_minute, no_request}
use Rattle.office_journal.proofs.replay.judge_body.Goals as goal

pub returns-in_default-clause-judges : goal.returns-in_default-clause-judges
returns-in_default-clause-judges c =
    no_minute c.canonical_texts_are_lines.ensures c.args.office.now c.args.office.now.state c.args.body.now (sym c.minute_in.ensures.minute ∙ c.in_default.is)

pub returns-in-None-clause-judges : goal.returns-in-None-clause-judges
returns-in-None-clause-judges c =
    no_request c.canonical_texts_are_lines.ensures c.args.office.now c.args.office.now.state c.args.body.now (λ a. c.in_ok-read.ensures.none a (ap Ok c.in-None.is))
