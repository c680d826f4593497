use Rattle.std.proofs.Common.{◌≡◌, ◌⊎◌, ℤ, Some, subst, w64}
use Rattle.std.proofs.lemmas.Int.{to_z-of_z}
use Rattle.desk_traits.specs.Crash.{LeavesOnly}
use Rattle.office_journal.specs.Changes.{Leaves}
use Rattle.office_journal.specs.Submitting.{IsAsked}
use Rattle.office_journal.proofs.kept.KeptOffice.submit.Goals as goal

pub returns-clause-any_moment : goal.returns-clause-any_moment
returns-clause-any_moment g c file h pending holds =
    let d = g.D.Disk in
    let s = c.args.self.now.office.state in
    subst (λ (z : ℤ). LeavesOnly (d.crash c.args.self.now.journal.disk) (d.crash c.submit_with_prepared-answer.new.self.journal.disk) (Leaves file h (λ change. (pending ≡ Some change) ⊎ IsAsked s c.args.desk c.args.seq c.args.r.now z change)))
    (to_z-of_z w64 c.args.reading c.ranges.reading) (c.submit_with_prepared-answer.ensures.any_moment file h pending holds)
