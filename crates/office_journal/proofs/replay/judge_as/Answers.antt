use Rattle.std.proofs.Common.{◌≢◌, ℕ, Option, Some, None, sym, ◌∙◌, subst}
use Rattle.std.proofs.lemmas.Bool.Decides.{Decides-eqb, not_from_Decides}
use Rattle.office_core.specs.Prepared.{Readied}
use Rattle.office_journal.specs.Replaying.{Prepares}
use Rattle.office_journal.proofs.Taking.{not_accepted, other_body, other_minute}
use Rattle.office_journal.proofs.replay.judge_as.Goals.{else-same-via-then-same+else-eq, else-same-via-else-same}
use Rattle.office_journal.proofs.replay.judge_as.Goals as goal

pub returns-else-same-clause-judges : goal.returns-else-same-clause-judges
returns-else-same-clause-judges c =
    let lines = c.canonical_texts_are_lines.ensures in
    let once = c.a_request_has_one_answer.ensures.accepted in
    let o = c.prepared.new.office in
    let s = c.args.office.now.state in
    let a = c.args.asked.now in
    let m = c.args.minute in
    let body = c.args.body.now in
    let p = c.in-Some.p in
    let ready : Prepares o s a m (Some p) = subst (λ (r : Option Readied). Prepares o s a m r) c.in-Some.is c.in_ok-ready.ensures.prepares in
    elim c.else-same.branch [
      | else-same-via-then-same+else-eq w ↦
          other_minute lines o s a m body c.requires.asked c.requires.minute once c.prepared.ensures.state p ready
          (subst (λ (n : ℕ). n ≢ m) w.minute.ensures (not_from_Decides _ (Decides-eqb w.minute.result m) (sym w.eq.ensures ∙ w.if-eq.false)))
      | else-same-via-else-same w ↦
          other_body lines o s a m body c.requires.asked c.requires.minute once c.prepared.ensures.state p ready
          (not_from_Decides c.in_ok-same-in-Some.same c.in_ok-same-in-Some.ensures w.if-same.false)
    ]

pub returns-in-None-clause-judges : goal.returns-in-None-clause-judges
returns-in-None-clause-judges c =
    let o = c.prepared.new.office in
    let s = c.args.office.now.state in
    let a = c.args.asked.now in
    let m = c.args.minute in
    let ready : Prepares o s a m None = subst (λ (r : Option Readied). Prepares o s a m r) c.in-None.is c.in_ok-ready.ensures.prepares in
    not_accepted c.canonical_texts_are_lines.ensures o s a m c.args.body.now c.requires.asked c.requires.minute ready
