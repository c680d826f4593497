use Rattle.std.proofs.Common.{◌≡◌, ◌⊎◌, Some, Err, option_map, length, arith, refl, ap}
use Rattle.desk_traits.proofs.Moments.{weaker}
use Rattle.journal_core.specs.Image.{IsOneOf}
use Rattle.office_journal.specs.Changes.{Change, Leaves, body_of}
use Rattle.office_journal.specs.Histories.{bodies}
use Rattle.office_journal.specs.Submitting.{entered}
use Rattle.office_journal.proofs.Appending.{held_still, held_then, left_then, legal_then}
use Rattle.office_journal.proofs.kept.KeptOffice.append.Goals as goal

pub returns-in-Ok-clause-becomes : goal.returns-in-Ok-clause-becomes
returns-in-Ok-clause-becomes g c =
    let d = g.D.Disk in
    let m = g.met.D.Disk in (
      entered c.args.p,
      refl,
      c.requires.reply,
      record {
        steady = c.in-Ok.ensures.steady;
        gate = omega (arith, c.in-Ok.ensures.gate, ap length c.requires.body);
        state = c.commit.ensures.state;
        entries = refl;
        notes = refl;
        reads = c.commit.ensures.reads;
        legal = λ file h has. legal_then c.args.self.now c.args.p c.accepted_requests_are_accepted_at_their_minute.ensures c.requires.ready c.args.packet.now c.requires.body c.requires.room file h has _ c.commit.ensures.state refl c.in-Ok.ensures.gate;
        held = λ file h pending holds.
            held_then d.seen d.crash c.args.self.now c.args.p c.accepted_requests_are_accepted_at_their_minute.ensures c.requires.ready c.args.packet.now c.requires.body c.requires.room
            file h pending holds _ c.commit.ensures.state refl (c.in-Ok.ensures.ok (bodies file h) (option_map body_of pending) holds.journal);
        moments = λ file h pending holds.
            weaker d.crash m.are_crashes c.args.self.now.journal.disk c.append.new.self.disk (IsOneOf (bodies file h) (option_map body_of pending) c.args.packet.now)
            (Leaves file h (λ change. (pending ≡ Some change) ⊎ (change ≡ Change.entry (entered c.args.p))))
            (left_then d.seen d.crash c.args.self.now c.args.p c.accepted_requests_are_accepted_at_their_minute.ensures c.requires.ready c.args.packet.now c.requires.body c.requires.room file h pending holds)
            (c.append.ensures.any_moment (bodies file h) (option_map body_of pending) holds.journal);
      },
    )

pub returns-in-Ok-clause-any_moment : goal.returns-in-Ok-clause-any_moment
returns-in-Ok-clause-any_moment g c file h pending holds =
    let d = g.D.Disk in
    let m = g.met.D.Disk in
    weaker d.crash m.are_crashes c.args.self.now.journal.disk c.append.new.self.disk (IsOneOf (bodies file h) (option_map body_of pending) c.args.packet.now)
    (Leaves file h (λ change. (pending ≡ Some change) ⊎ (change ≡ Change.entry (entered c.args.p))))
    (left_then d.seen d.crash c.args.self.now c.args.p c.accepted_requests_are_accepted_at_their_minute.ensures c.requires.ready c.args.packet.now c.requires.body c.requires.room file h pending holds)
    (c.append.ensures.any_moment (bodies file h) (option_map body_of pending) holds.journal)

pub returns-in-Err-DiskFault-clause-becomes : goal.returns-in-Err-DiskFault-clause-becomes
returns-in-Err-DiskFault-clause-becomes g c =
    let d = g.D.Disk in
    let m = g.met.D.Disk in (
      entered c.args.p,
      refl,
      record {
        cause = c.in-Err-DiskFault.ensures.cause (ap Err c.in-Err-DiskFault.field-0-is);
        room = λ long. omega (arith, long, c.requires.room, ap length c.requires.body);
        gate = c.in-Err-DiskFault.ensures.gate;
        state = refl;
        entries = refl;
        notes = c.saturating_add-self.ensures;
        held = λ file h pending holds.
            let failed = c.in-Err-DiskFault.ensures.failed (bodies file h) (option_map body_of pending) holds.journal (ap Err c.in-Err-DiskFault.field-0-is) in
            held_still d.seen d.crash c.args.self.now c.args.p c.accepted_requests_are_accepted_at_their_minute.ensures c.requires.ready c.args.packet.now c.requires.body c.requires.room
            file h pending holds _ refl refl failed.0 failed.1 failed.2;
        moments = λ file h pending holds.
            weaker d.crash m.are_crashes c.args.self.now.journal.disk c.append.new.self.disk (IsOneOf (bodies file h) (option_map body_of pending) c.args.packet.now)
            (Leaves file h (λ change. (pending ≡ Some change) ⊎ (change ≡ Change.entry (entered c.args.p))))
            (left_then d.seen d.crash c.args.self.now c.args.p c.accepted_requests_are_accepted_at_their_minute.ensures c.requires.ready c.args.packet.now c.requires.body c.requires.room file h pending holds)
            (c.append.ensures.any_moment (bodies file h) (option_map body_of pending) holds.journal);
      },
    )

pub returns-in-Err-DiskFault-clause-any_moment : goal.returns-in-Err-DiskFault-clause-any_moment
returns-in-Err-DiskFault-clause-any_moment g c file h pending holds =
    let d = g.D.Disk in
    let m = g.met.D.Disk in
    weaker d.crash m.are_crashes c.args.self.now.journal.disk c.append.new.self.disk (IsOneOf (bodies file h) (option_map body_of pending) c.args.packet.now)
    (Leaves file h (λ change. (pending ≡ Some change) ⊎ (change ≡ Change.entry (entered c.args.p))))
    (left_then d.seen d.crash c.args.self.now c.args.p c.accepted_requests_are_accepted_at_their_minute.ensures c.requires.ready c.args.packet.now c.requires.body c.requires.room file h pending holds)
    (c.append.ensures.any_moment (bodies file h) (option_map body_of pending) holds.journal)
