use Rattle.std.proofs.Common.{◌≡◌, [], ◌∷◌, ◌++◌, refl, sym, subst}
use Rattle.std.specs.declared.snapshot.Snapshot.{Snapshot}
use Rattle.office_core.specs.Prepared.{Readied}
use Rattle.office_journal.specs.declared.answers.Answer.{Answer}
use Rattle.office_turns.specs.Noting.{Notes}
use Rattle.office_turns.specs.declared.happening.Happening.TheVariants.{Entry}
use Rattle.office_turns.proofs.submit.note.Goals as goal

pub returns-in-Some : goal.returns-in-Some
returns-in-Some g c =
    let old = c.args.happenings.now.items in
    let new = c.push_reserved.new.self.items in
    subst (λ (a : Answer). Notes a c.args.told c.args.now.value old new) (sym c.in-Accepted.is)
    (λ p told.
    let same : c.in-Some.entry ≡ p = (let noted = c.in-Some.is in cc) in
    (c.args.now, refl, subst (λ (q : Snapshot Readied). new ≡ old ++ Entry q c.args.now ∷ []) same c.push_reserved.ensures.items))
