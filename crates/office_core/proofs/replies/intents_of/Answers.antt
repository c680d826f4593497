-- The draft that is found has at most 64 intents.
use Rattle.std.proofs.Common.{◌≡◌, ◌≤◌, Some, find, length, sym, arith}
use Rattle.office_types.specs.declared.request.Draft.{Draft}
use Rattle.office_core.specs.State.{is_draft}
use Rattle.office_core.proofs.FoundLemmas.{found_one}
use Rattle.office_core.proofs.replies.intents_of.Goals as goal

pub overflow_cast-result : goal.overflow_cast-result
overflow_cast-result c =
    let found : find (is_draft c.args.id) c.args.drafts.now ≡ Some c.in-Some.draft.now = sym c.in-Some.ensures in
    let few = found_one (λ (d : Draft). length d.intents ≤ 64) (is_draft c.args.id) c.args.drafts.now c.in-Some.draft.now c.requires found in
    omega (arith, few, c.len.ensures)
