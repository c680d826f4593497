use Rattle.std.proofs.Common.{sym, ◌∙◌}
use Rattle.office_journal.proofs.Parting.{line_found, line_whole}
use Rattle.office_journal.proofs.parts.line_of.Goals as goal

pub returns-in-Some : goal.returns-in-Some
returns-in-Some c = line_found c.args.bytes.now c.in-Some.at (sym c.line_end.ensures.place ∙ c.in-Some.is)

pub returns-in-None : goal.returns-in-None
returns-in-None c = line_whole c.args.bytes.now (sym c.line_end.ensures.place ∙ c.in-None.is)
