use Rattle.std.proofs.Common.{◌+◌, ap, refl}
use Rattle.std.proofs.lemmas.Bool.Decides.{not_from_Decides}
use Rattle.std.proofs.lemmas.Result.{IfOk-weaker}
use Rattle.office_journal.specs.Replaying.{Takes, TakesEntry}
use Rattle.office_journal.specs.declared.replay.Replayed.{Replayed}
use Rattle.office_journal.proofs.Taking.{mark_taken, taken_so}
use Rattle.office_journal.proofs.replay.Replayed.take.Goals as goal

pub returns-then-goes_over : goal.returns-then-goes_over
returns-then-goes_over c =
    let old = c.args.self.now in
    let new : Replayed = record { office = c.set_edition.new.self; entries = old.entries; size = old.size + c.record_length.result } in
    let stands = c.goes_over.ensures.0 c.if-goes_over.true in
    mark_taken old new c.args.body.now stands.0 stands.1 c.set_edition.ensures.state refl (ap (λ n. old.size + n) c.record_length.ensures)

pub returns : goal.returns
returns c =
    let old = c.args.self.now in
    let new = c.take_entry.new.self in
    let body = c.args.body.now in
    IfOk-weaker c.take_entry.result (TakesEntry old new body) (Takes old new body)
    (taken_so c.canonical_texts_are_lines.ensures c.a_request_has_one_answer.ensures.accepted old new body (not_from_Decides c.goes_over.result c.goes_over.ensures c.if-goes_over.false))
    c.take_entry.ensures
