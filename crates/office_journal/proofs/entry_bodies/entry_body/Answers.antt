use Rattle.std.proofs.Common.{rules, ◌≡◌, ◌++◌, ◌∷◌, [], refl, ◌∙◌}
use Rattle.hazard_types.specs.Calendar.{stamp_of}
use Rattle.office_types.specs.declared.request.Edition.TheVariants.{One, Two}
use Rattle.request_json.specs.Canonical.{asked_text}
use Rattle.office_journal.specs.Bodies.{asked_by}
use Rattle.office_journal.proofs.Writing.{asked_so, bare, in_one, with_text, with_this, without_text}
use Rattle.office_journal.proofs.entry_bodies.entry_body.Goals.{then-eq+in-Some+in_ok-push-2+in_ok-extend-2, then-eq+in_default, else-eq}
use Rattle.office_journal.proofs.entry_bodies.entry_body.Goals as goal

pub returns : goal.returns
returns c =
    let e = c.args.p.now.entry in
    let made = c.args.p.now.made in
    let start : c.in_ok-body.body ≡ stamp_of e.minute = search rules in
    let asked : c.in_ok-asked.asked ≡ asked_text (asked_by e) = c.in_ok-asked.ensures ∙ asked_so e c.args.desk.now c.args.seq c.args.r.now c.requires.desk c.requires.seq c.requires.request in
    let head : c.extend.new.self ≡ (stamp_of e.minute ++ 32 ∷ []) ++ asked_text (asked_by e) = c.in_ok-extend.ensures.ok ∙ rw (c.in_ok-push.ensures.ok, start, c.as_slice.ensures, asked) refl in
    elim c.if-eq.branch [
      | then-eq+in-Some+in_ok-push-2+in_ok-extend-2 w ↦
          let two : e.edition ≡ Two = search rules in
          rw (w.body-is, w.in_ok-extend-2.ensures.ok, w.in_ok-push-2.ensures.ok, w.as_slice-in-Some.ensures, head) (with_text e made w.in-Some.text.now (with_this e.edition made w.in-Some.text.now two (rw w.in-Some.is at w.text.ensures)))
      | then-eq+in_default w ↦
          let two : e.edition ≡ Two = search rules in
          rw (w.body-is, head) (bare e made (without_text e.edition made two (rw w.in_default.is at w.text.ensures)))
      | else-eq w ↦
          let one : e.edition ≡ One = search rules in
          rw (w.body-is, head) (bare e made (in_one e.edition made one))
    ]
