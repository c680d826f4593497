use Rattle.std.proofs.Common.{ℕ, List, [], ◌∷◌, ◌++◌, None, subst}
use Rattle.desk_traits.specs.Crash.{LeavesOnly}
use Rattle.journal_core.specs.Image.{IsOneOf}
use Rattle.journal_core.specs.Kept.{Keeps}
use Rattle.office_journal.proofs.create.append_edition_mark.Goals as goal

pub returns-in-Ok-clause-ok : goal.returns-in-Ok-clause-ok
returns-in-Ok-clause-ok g c all keeps =
    let d = g.D.Disk in
    let kept = c.in-Ok.ensures.ok all None keeps in
    (subst (λ (b : List ℕ). Keeps d.seen d.crash c.append.new.self (all ++ b ∷ []) None) c.requires.goes_over kept.0, kept.1)

pub returns-in-Ok-clause-any_moment : goal.returns-in-Ok-clause-any_moment
returns-in-Ok-clause-any_moment g c all keeps =
    let d = g.D.Disk in
    subst (λ (b : List ℕ). LeavesOnly (d.crash c.args.journal.disk) (d.crash c.append.new.self.disk) (IsOneOf all None b)) c.requires.goes_over (c.append.ensures.any_moment all None keeps)

pub returns-in-Err-DiskFault-clause-any_moment : goal.returns-in-Err-DiskFault-clause-any_moment
returns-in-Err-DiskFault-clause-any_moment g c all keeps =
    let d = g.D.Disk in
    rw c.into_disk.ensures (subst (λ (b : List ℕ). LeavesOnly (d.crash c.args.journal.disk) (d.crash c.append.new.self.disk) (IsOneOf all None b)) c.requires.goes_over (c.append.ensures.any_moment all None keeps))
