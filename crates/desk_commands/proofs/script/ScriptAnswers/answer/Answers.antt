use Rattle.std.proofs.Common.{rules, ℤ, refl, ap, sym, ◌∙◌, subst, w64}
use Rattle.std.proofs.lemmas.Int.{to_z-of_z}
use mir.Val.{SFits}
use Rattle.office_types.specs.declared.refusal.Refusal.TheVariants.{LineTooLong}
use Rattle.program_ends.specs.Replies.{bytes_of}
use Rattle.desk_commands.specs.Lines.{ended}
use Rattle.desk_commands.specs.Scripts.{IsRead, line_asks}
use Rattle.desk_commands.proofs.Judging.{Told, empty_line, fault_line, lacking_line, no_bytes, now_of, refused_line, request_line, some_bytes}
use Rattle.desk_commands.proofs.script.ScriptAnswers.answer.Goals as goal

pub returns-in_default-clause-answered : goal.returns-in_default-clause-answered
returns-in_default-clause-answered g c =
    let d = g.D.Disk in
    let k = g.C.Clock in
    let none = now_of c.in_default.is in
    let read : IsRead k c.args.self.now.clock.now c.tick.new.self c.tick.result = record { given = c.tick.ensures.reading; same = c.tick.ensures.same; ticks = c.tick.ensures.ahead } in
    (record { kept = refl; clock = refl }, fault_line d k _ _ _ LineTooLong c.tick.result (bytes_of c.refusal_reply.result) (λ e. let q = sym none ∙ e in absurd (cc)) (ap line_asks none) read refl c.refusal_reply.ensures)

pub returns-then-is_empty-clause-answered : goal.returns-then-is_empty-clause-answered
returns-then-is_empty-clause-answered g c =
    let d = g.D.Disk in
    let k = g.C.Clock in
    let is = now_of c.in-Some.is in
    (record { kept = refl; clock = refl }, empty_line d k _ c.in-Some.bytes.now is _ (no_bytes c.in-Some.bytes.now c.is_empty.result c.is_empty.ensures c.if-is_empty.true))

pub returns-in-Ok-clause-answered : goal.returns-in-Ok-clause-answered
returns-in-Ok-clause-answered g c =
    let d = g.D.Disk in
    let k = g.C.Clock in
    let fits : SFits w64 c.tick-reading.result = search rules in
    let text = bytes_of c.judge.result in
    let read : IsRead k c.args.self.now.clock.now c.judge.new.self.clock.now c.tick-reading.result =
    subst (λ clock. IsRead k c.args.self.now.clock.now clock c.tick-reading.result) (sym c.judge.ensures.clock) (record { given = c.tick-reading.ensures.reading; same = c.tick-reading.ensures.same; ticks = c.tick-reading.ensures.ahead }) in (
      record { kept = c.judge.ensures.references.kept; clock = c.judge.ensures.references.clock },
      request_line d k _ c.in-Some.bytes.now (now_of c.in-Some.is) _ _ c.in-Ok.asked c.tick-reading.result text
          (some_bytes c.in-Some.bytes.now c.is_empty.result c.is_empty.ensures c.if-is_empty.false) (search rules) read
          (subst (λ (z : ℤ). Told d c.in-Ok.asked z c.args.self.now.kept.now c.judge.new.self.kept.now text) (to_z-of_z w64 c.tick-reading.result fits) c.judge.ensures.judged),
    )

pub returns-in-Err-No-clause-answered : goal.returns-in-Err-No-clause-answered
returns-in-Err-No-clause-answered g c =
    let some = some_bytes c.in-Some.bytes.now c.is_empty.result c.is_empty.ensures c.if-is_empty.false in
    let read : IsRead g.C.Clock c.args.self.now.clock.now c.tick-reading.new.self c.tick-reading.result = record { given = c.tick-reading.ensures.reading; same = c.tick-reading.ensures.same; ticks = c.tick-reading.ensures.ahead } in
    (record { kept = refl; clock = refl }, refused_line g.D.Disk g.C.Clock _ c.in-Some.bytes.now (now_of c.in-Some.is) _ _ c.in-Err-No.refusal c.tick-reading.result (bytes_of c.refusal_reply-in-Err-No.result) some (search rules) read refl c.refusal_reply-in-Err-No.ensures)

pub returns-in-Err-OutOfMemory-clause-answered : goal.returns-in-Err-OutOfMemory-clause-answered
returns-in-Err-OutOfMemory-clause-answered g c =
    let some = some_bytes c.in-Some.bytes.now c.is_empty.result c.is_empty.ensures c.if-is_empty.false in
    let read : IsRead g.C.Clock c.args.self.now.clock.now c.tick-reading.new.self c.tick-reading.result = record { given = c.tick-reading.ensures.reading; same = c.tick-reading.ensures.same; ticks = c.tick-reading.ensures.ahead } in
    (record { kept = refl; clock = refl }, lacking_line g.D.Disk g.C.Clock _ c.in-Some.bytes.now (now_of c.in-Some.is) _ _ c.tick-reading.result (ended c.out_of_memory_text.result.now) some read refl (ap ended c.out_of_memory_text.ensures))
