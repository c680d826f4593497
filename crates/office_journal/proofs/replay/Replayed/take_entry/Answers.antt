use Rattle.std.proofs.Common.{◌≤◌, ◌<◌, ◌+◌, Option, None, Some, length, refl, ◌∙◌, ap, subst, arith}
use Rattle.office_core.specs.Prepared.{Readied}
use Rattle.office_core.specs.State.{State}
use Rattle.office_core.specs.Step.{state_after}
use Rattle.office_journal.specs.Replaying.{Judges}
use Rattle.office_journal.specs.declared.replay.Replayed.{Replayed}
use Rattle.office_journal.proofs.Taking.{entry_taken, no_entry, no_room}
use Rattle.office_journal.proofs.replay.Replayed.take_entry.Goals as goal

pub returns-then-self-record_length-gt-LIMIT : goal.returns-then-self-record_length-gt-LIMIT
returns-then-self-record_length-gt-LIMIT c =
    let full : 268435456 < c.args.self.now.size + 6 + length c.args.body.now = omega arith in
    no_room c.args.self.now c.args.self.now c.args.body.now full refl

pub returns-in-Some : goal.returns-in-Some
returns-in-Some c =
    let old = c.args.self.now in
    let new : Replayed = record { office = c.commit.new.self; entries = old.entries + 1; size = old.size + c.record_length-in-Some.result } in
    let body = c.args.body.now in
    let p = c.in-Some.p in
    let read : Judges c.judge_body.new.office old.office.state body (Some p) = subst (λ (r : Option Readied). Judges c.judge_body.new.office old.office.state body r) c.in-Some.is c.in_ok-read.ensures.judges in
    let room : old.size + 6 + length body ≤ 268435456 = omega arith in
    entry_taken old new p body read.1 read.2 room
    (c.commit.ensures.state ∙ ap (λ (z : State). state_after z p.entry p.made) c.judge_body.ensures.state)
    c.commit.ensures.reads refl (ap (λ n. old.size + n) c.record_length-in-Some.ensures)

pub returns-in-None : goal.returns-in-None
returns-in-None c =
    let old = c.args.self.now in
    let new : Replayed = record { office = c.judge_body.new.office; entries = old.entries; size = old.size } in
    let read : Judges c.judge_body.new.office old.office.state c.args.body.now None = subst (λ (r : Option Readied). Judges c.judge_body.new.office old.office.state c.args.body.now r) c.in-None.is c.in_ok-read.ensures.judges in
    no_entry old new c.judge_body.new.office c.args.body.now read refl
