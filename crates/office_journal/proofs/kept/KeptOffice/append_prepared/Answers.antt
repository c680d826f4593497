use Rattle.std.proofs.Common.{◌≡◌}
use Rattle.office_journal.specs.Changes.{Change}
use Rattle.office_journal.specs.Submitting.{entered}
use Rattle.office_journal.proofs.Appending.{at_rest, becomes_unkept}
use Rattle.office_journal.proofs.kept.KeptOffice.append_prepared.Goals as goal

pub returns-in-Err-clause-becomes : goal.returns-in-Err-clause-becomes
returns-in-Err-clause-becomes g c =
    let d = g.D.Disk in
    let m = g.met.D.Disk in
    let kept = c.args.self.now in
    becomes_unkept d.seen d.crash kept (at_rest d.seen d.crash m.are_crashes kept c.a_crash_leaves_the_history.ensures (λ change. ⊥)) d.faults (entered c.args.p) c.in-Err.answer c.in-Err.ensures.unkept

pub returns-in-Err-clause-any_moment : goal.returns-in-Err-clause-any_moment
returns-in-Err-clause-any_moment g c =
    let d = g.D.Disk in
    let m = g.met.D.Disk in
    at_rest d.seen d.crash m.are_crashes c.args.self.now c.a_crash_leaves_the_history.ensures (λ change. change ≡ Change.entry (entered c.args.p))
