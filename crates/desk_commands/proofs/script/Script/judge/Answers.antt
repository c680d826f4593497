use Rattle.std.proofs.Common.{ℤ, ap, subst, w64}
use Rattle.std.proofs.lemmas.Int.{to_z-of_z}
use Rattle.office_journal.specs.declared.answers.Answer.TheVariants.{Accepted, Repeated, DiskFault, OutOfMemory}
use Rattle.program_ends.specs.Replies.{bytes_of}
use Rattle.desk_commands.specs.Lines.{ended}
use Rattle.desk_commands.proofs.Judging.{Told, told, told_or}
use Rattle.desk_commands.proofs.script.Script.judge.Goals as goal

pub returns-in-Accepted-clause-judged : goal.returns-in-Accepted-clause-judged
returns-in-Accepted-clause-judged g c =
    subst (λ (z : ℤ). Told g.D.Disk c.args.asked.now z c.args.self.now.kept.now c.submit.new.self (ended c.into_text.result)) (to_z-of_z w64 c.args.reading c.ranges.reading)
    (told g.D.Disk c.args.asked.now _ c.args.self.now.kept.now c.submit.new.self (Accepted c.in-Accepted.reply) (ended c.into_text.result) c.in-Accepted.ensures.becomes (ap ended c.into_text.ensures) c.submit.ensures.later)

pub returns-in-Repeated-clause-judged : goal.returns-in-Repeated-clause-judged
returns-in-Repeated-clause-judged g c =
    subst (λ (z : ℤ). Told g.D.Disk c.args.asked.now z c.args.self.now.kept.now c.submit.new.self (ended c.into_text-in-Repeated.result)) (to_z-of_z w64 c.args.reading c.ranges.reading)
    (told g.D.Disk c.args.asked.now _ c.args.self.now.kept.now c.submit.new.self (Repeated c.in-Repeated.reply) (ended c.into_text-in-Repeated.result) c.in-Repeated.ensures.becomes (ap ended c.into_text-in-Repeated.ensures) c.submit.ensures.later)

pub returns-in-Refused-clause-judged : goal.returns-in-Refused-clause-judged
returns-in-Refused-clause-judged g c =
    let text = bytes_of c.refusal_reply.result in
    subst (λ (z : ℤ). Told g.D.Disk c.args.asked.now z c.args.self.now.kept.now c.submit.new.self text) (to_z-of_z w64 c.args.reading c.ranges.reading)
    (told_or g.D.Disk c.args.asked.now _ c.args.self.now.kept.now c.submit.new.self c.in-Refused.refusal text c.in-Refused.ensures.becomes c.refusal_reply.ensures c.submit.ensures.later)

pub returns-in-DiskFault-clause-judged : goal.returns-in-DiskFault-clause-judged
returns-in-DiskFault-clause-judged g c =
    let text = ended c.disk_fault_text.result.now in
    subst (λ (z : ℤ). Told g.D.Disk c.args.asked.now z c.args.self.now.kept.now c.submit.new.self text) (to_z-of_z w64 c.args.reading c.ranges.reading)
    (told g.D.Disk c.args.asked.now _ c.args.self.now.kept.now c.submit.new.self DiskFault text c.in-DiskFault.ensures.becomes (ap ended c.disk_fault_text.ensures) c.submit.ensures.later)

pub returns-in-OutOfMemory-clause-judged : goal.returns-in-OutOfMemory-clause-judged
returns-in-OutOfMemory-clause-judged g c =
    let text = ended c.out_of_memory_text.result.now in
    subst (λ (z : ℤ). Told g.D.Disk c.args.asked.now z c.args.self.now.kept.now c.submit.new.self text) (to_z-of_z w64 c.args.reading c.ranges.reading)
    (told g.D.Disk c.args.asked.now _ c.args.self.now.kept.now c.submit.new.self OutOfMemory text c.in-OutOfMemory.ensures.becomes (ap ended c.out_of_memory_text.ensures) c.submit.ensures.later)
