-- The draft at the place of the id is the edited one.
use Rattle.std.proofs.Common.{◌∙◌, set, ap, sym}
use Rattle.office_core.specs.Edits.{edited}
use Rattle.office_core.proofs.DraftChanges.{with_at, with_none}
use Rattle.office_core.proofs.changes.edit_draft.Goals as goal

pub returns-in_ok-draft-in-Some-clause-drafts : goal.returns-in_ok-draft-in-Some-clause-drafts
returns-in_ok-draft-in-Some-clause-drafts c =
    ap (set c.args.drafts.now c.in-Some.place) c.in_ok-draft-in-Some.ensures
    ∙ with_at (edited c.args.t c.args.edit) c.args.id c.args.drafts.now c.in-Some.place c.index-drafts-place.result (sym c.place_of.ensures ∙ c.in-Some.is) c.index-drafts-place.is

pub returns-in-None-clause-drafts : goal.returns-in-None-clause-drafts
returns-in-None-clause-drafts c = with_none (edited c.args.t c.args.edit) c.args.id c.args.drafts.now (sym c.place_of.ensures ∙ c.in-None.is)
