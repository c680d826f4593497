-- The draft at the place of the id goes.
use Rattle.std.proofs.Common.{◌∙◌, sym, add-one}
use Rattle.office_core.proofs.DraftChanges.{without_at, without_none}
use Rattle.office_core.proofs.changes.take_away.Goals as goal

pub returns-in-Some-clause-drafts : goal.returns-in-Some-clause-drafts
returns-in-Some-clause-drafts c = rw add-one (without_at c.args.id c.args.drafts.now c.in-Some.place (sym c.place_of.ensures ∙ c.in-Some.is))

pub returns-in-None-clause-drafts : goal.returns-in-None-clause-drafts
returns-in-None-clause-drafts c = without_none c.args.id c.args.drafts.now (sym c.place_of.ensures ∙ c.in-None.is)
