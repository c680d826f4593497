use Rattle.std.proofs.Common.{◌≡◌, ◌⊎◌, ◌∙◌, inl, ℕ, ℤ, List, Some, Ok, Err, option_map, refl, sym, ap, subst, w64}
use Rattle.std.proofs.lemmas.Int.{to_z-of_z}
use Rattle.desk_traits.proofs.Moments.{weaker}
use Rattle.office_types.specs.declared.request.Reply.{Reply}
use Rattle.request_json.specs.Replies.{reply_text}
use Rattle.office_core.specs.Prepared.{IsReady, Readied}
use Rattle.office_core.specs.Step.{Refuses, Repeats}
use Rattle.office_journal.specs.Changes.{Change, Leaves}
use Rattle.office_journal.specs.Outcomes.{Becomes, Names, ComesWith}
use Rattle.office_journal.specs.Submitting.{IsAsked, IsOffered, entered}
use Rattle.office_journal.specs.declared.answers.Answer.{Answer}
use Rattle.office_journal.proofs.Appending.{at_rest}
use Rattle.office_journal.proofs.Answering.{asked_less, becomes_again, becomes_on, holds_on, names_on, ready_offered, still_as_before}
use Rattle.office_journal.proofs.kept.KeptOffice.submit_with_prepared.Goals as goal

pub append_prepared-requires-clause-ready : goal.append_prepared-requires-clause-ready
append_prepared-requires-clause-ready g c = (c.args.reading, subst (λ (z : ℤ). IsReady c.prepare.new.self c.args.desk c.args.seq c.args.r.now z c.in-New.p) (to_z-of_z w64 c.args.reading c.ranges.reading) (c.prepare.ensures.ready c.in-New.p (c.in-Ok.is ∙ ap (λ z. Ok z) c.in-New.is)))

pub returns-in-New-clause-becomes : goal.returns-in-New-clause-becomes
returns-in-New-clause-becomes g c =
    let d = g.D.Disk in
    let s = c.args.self.now.office.state in
    let ready : IsReady c.prepare.new.self c.args.desk c.args.seq c.args.r.now c.args.reading c.in-New.p = subst (λ (z : ℤ). IsReady c.prepare.new.self c.args.desk c.args.seq c.args.r.now z c.in-New.p) (to_z-of_z w64 c.args.reading c.ranges.reading) (c.prepare.ensures.ready c.in-New.p (c.in-Ok.is ∙ ap (λ z. Ok z) c.in-New.is)) in
    let kept : List ℕ → Type 0 = λ text. (kept : Reply) × Repeats s c.args.desk c.args.seq c.args.r.now kept × (text ≡ reply_text kept) in
    let offered = IsOffered s c.args.desk c.args.seq c.args.r.now c.args.reading in
    let broken = Refuses s c.args.desk c.args.seq c.args.r.now c.args.reading in
    subst (λ (a : Answer). Becomes d.seen d.crash d.faults c.args.self.now c.append_prepared.new.self offered kept broken a) (sym c.with_prepared.ensures.answer)
    (becomes_on d.seen d.crash c.args.self.now _ refl c.prepare.ensures.state refl refl c.append_prepared.new.self d.faults (entered c.in-New.p) offered kept broken
    (ready_offered c.prepare.new.self s c.args.desk c.args.seq c.args.r.now c.args.reading c.in-New.p c.prepare.ensures.state ready) c.append_prepared.result c.append_prepared.ensures.becomes)

pub returns-in-New-clause-told : goal.returns-in-New-clause-told
returns-in-New-clause-told g c =
    let d = g.D.Disk in
    let s = c.args.self.now.office.state in
    let ready : IsReady c.prepare.new.self c.args.desk c.args.seq c.args.r.now c.args.reading c.in-New.p = subst (λ (z : ℤ). IsReady c.prepare.new.self c.args.desk c.args.seq c.args.r.now z c.in-New.p) (to_z-of_z w64 c.args.reading c.ranges.reading) (c.prepare.ensures.ready c.in-New.p (c.in-Ok.is ∙ ap (λ z. Ok z) c.in-New.is)) in
    let kept : List ℕ → Type 0 = λ text. (kept : Reply) × Repeats s c.args.desk c.args.seq c.args.r.now kept × (text ≡ reply_text kept) in
    let offered = IsOffered s c.args.desk c.args.seq c.args.r.now c.args.reading in
    let broken = Refuses s c.args.desk c.args.seq c.args.r.now c.args.reading in
    let told = option_map (λ t. t.value) c.with_prepared.result.1 in
    let beside = subst (λ (p : Readied). ComesWith c.append_prepared.result p told) c.of-told.ensures c.with_prepared.ensures.told in
    subst (λ (a : Answer). Names d.seen d.crash d.faults c.args.self.now c.append_prepared.new.self offered kept broken a told) (sym c.with_prepared.ensures.answer)
    (names_on d.seen d.crash c.args.self.now _ refl c.prepare.ensures.state refl refl c.append_prepared.new.self d.faults c.in-New.p offered kept broken
    (ready_offered c.prepare.new.self s c.args.desk c.args.seq c.args.r.now c.args.reading c.in-New.p c.prepare.ensures.state ready) c.append_prepared.result told c.append_prepared.ensures.becomes beside)

pub returns-in-New-clause-any_moment : goal.returns-in-New-clause-any_moment
returns-in-New-clause-any_moment g c file h pending holds =
    let d = g.D.Disk in
    let m = g.met.D.Disk in
    let s = c.args.self.now.office.state in
    let ready : IsReady c.prepare.new.self c.args.desk c.args.seq c.args.r.now c.args.reading c.in-New.p = subst (λ (z : ℤ). IsReady c.prepare.new.self c.args.desk c.args.seq c.args.r.now z c.in-New.p) (to_z-of_z w64 c.args.reading c.ranges.reading) (c.prepare.ensures.ready c.in-New.p (c.in-Ok.is ∙ ap (λ z. Ok z) c.in-New.is)) in
    let offered : IsOffered s c.args.desk c.args.seq c.args.r.now c.args.reading (entered c.in-New.p) = ready_offered c.prepare.new.self s c.args.desk c.args.seq c.args.r.now c.args.reading c.in-New.p c.prepare.ensures.state ready in
    weaker d.crash m.are_crashes c.args.self.now.journal.disk c.append_prepared.new.self.journal.disk
    (Leaves file h (λ change. (pending ≡ Some change) ⊎ (change ≡ Change.entry (entered c.in-New.p))))
    (Leaves file h (λ change. (pending ≡ Some change) ⊎ IsAsked s c.args.desk c.args.seq c.args.r.now c.args.reading change))
    (asked_less s c.args.desk c.args.seq c.args.r.now c.args.reading (entered c.in-New.p) offered file h pending)
    (c.append_prepared.ensures.any_moment file h pending (holds_on d.seen d.crash c.args.self.now _ refl c.prepare.ensures.state refl refl file h pending holds))

pub returns-in-Again-clause-becomes : goal.returns-in-Again-clause-becomes
returns-in-Again-clause-becomes g c =
    let d = g.D.Disk in
    let m = g.met.D.Disk in
    let s = c.args.self.now.office.state in
    let again = c.prepare.ensures.again (c.in-Ok.is ∙ ap (λ z. Ok z) c.in-Again.is) in
    becomes_again d.seen d.crash c.args.self.now _ refl c.prepare.ensures.state refl refl d.faults (IsOffered s c.args.desk c.args.seq c.args.r.now c.args.reading) (Refuses s c.args.desk c.args.seq c.args.r.now c.args.reading)
    c.args.desk c.args.seq c.args.r.now again.0 again.1 (at_rest d.seen d.crash m.are_crashes c.args.self.now c.a_crash_leaves_the_history.ensures (λ change. ⊥)) c.repeated_answer.result c.repeated_answer.ensures

pub returns-in-Again-clause-any_moment : goal.returns-in-Again-clause-any_moment
returns-in-Again-clause-any_moment g c =
    let d = g.D.Disk in
    let m = g.met.D.Disk in
    let s = c.args.self.now.office.state in
    at_rest d.seen d.crash m.are_crashes c.args.self.now c.a_crash_leaves_the_history.ensures (IsAsked s c.args.desk c.args.seq c.args.r.now c.args.reading)

pub returns-in-No-clause-becomes : goal.returns-in-No-clause-becomes
returns-in-No-clause-becomes g c =
    let d = g.D.Disk in
    let m = g.met.D.Disk in
    let s = c.args.self.now.office.state in
    let refuses : Refuses s c.args.desk c.args.seq c.args.r.now c.args.reading c.in-No.refusal =
    subst (λ (z : ℤ). Refuses s c.args.desk c.args.seq c.args.r.now z c.in-No.refusal) (to_z-of_z w64 c.args.reading c.ranges.reading)
    (c.prepare.ensures.refused c.in-No.refusal (c.in-Err.is ∙ ap (λ z. Err z) c.in-No.is)) in
    (inl refuses, still_as_before d.seen d.crash c.args.self.now _ refl c.prepare.ensures.state refl refl (at_rest d.seen d.crash m.are_crashes c.args.self.now c.a_crash_leaves_the_history.ensures (λ change. ⊥)))

pub returns-in-No-clause-any_moment : goal.returns-in-No-clause-any_moment
returns-in-No-clause-any_moment g c =
    let d = g.D.Disk in
    let m = g.met.D.Disk in
    let s = c.args.self.now.office.state in
    at_rest d.seen d.crash m.are_crashes c.args.self.now c.a_crash_leaves_the_history.ensures (IsAsked s c.args.desk c.args.seq c.args.r.now c.args.reading)

pub returns-in-OutOfMemory-clause-becomes : goal.returns-in-OutOfMemory-clause-becomes
returns-in-OutOfMemory-clause-becomes g c =
    let d = g.D.Disk in
    let m = g.met.D.Disk in
    still_as_before d.seen d.crash c.args.self.now _ refl c.prepare.ensures.state refl refl (at_rest d.seen d.crash m.are_crashes c.args.self.now c.a_crash_leaves_the_history.ensures (λ change. ⊥))

pub returns-in-OutOfMemory-clause-any_moment : goal.returns-in-OutOfMemory-clause-any_moment
returns-in-OutOfMemory-clause-any_moment g c =
    let d = g.D.Disk in
    let m = g.met.D.Disk in
    let s = c.args.self.now.office.state in
    at_rest d.seen d.crash m.are_crashes c.args.self.now c.a_crash_leaves_the_history.ensures (IsAsked s c.args.desk c.args.seq c.args.r.now c.args.reading)
