-- the drafts that are left decide as all do
use Rattle.std.proofs.Common.{◌≡◌, drop, find}
use Rattle.office_core.specs.State.{is_draft}
use Rattle.office_core.proofs.replies.find_draft.Given as goal

abbrev pub invariant-loop-draft : goal.invariant-loop-draft
invariant-loop-draft l = find (is_draft l.id) (drop l.draft-index l.drafts) ≡ find (is_draft l.id) l.drafts
