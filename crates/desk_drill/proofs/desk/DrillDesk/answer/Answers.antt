use Rattle.std.proofs.Common.{rules, arith, ap, Ok, Err, ◌+◌, slice_index, to_z, of_z, w64}
use Rattle.desk_drill.proofs.Keeping.{accepted_if, accepted_low, first_if, is_some, next_is, no_fault, number_low, products_low, refused_core, second_if, taken_by}
use Rattle.desk_drill.proofs.desk.DrillDesk.answer.Goals as goal

pub accept-requires-clause-may : goal.accept-requires-clause-may
accept-requires-clause-may c = (c.in-Ok-New.ensures.ready c.in-Ok-New.prepared (ap (λ z. Ok z) c.in-Ok-New.field-0-is)).may

pub accept-requires-clause-made : goal.accept-requires-clause-made
accept-requires-clause-made c =
    let t = taken_by c.prepare.new.self c.args.self.now c.desk_at.result c.args.r.desk c.args.r.minute (to_z w64 (of_z w64 c.from-reading.result)) c.args.r.part c.in-Ok-New.prepared c.prepare.ensures.state c.desk_at.ensures c.requires.kept c.requires.place (search rules) (c.in-Ok-New.ensures.ready c.in-Ok-New.prepared (ap (λ z. Ok z) c.in-Ok-New.field-0-is)) in
    is_some c.in-Ok-New.prepared.made t.one t.is

pub accept-requires-clause-number : goal.accept-requires-clause-number
accept-requires-clause-number c =
    let t = taken_by c.prepare.new.self c.args.self.now c.desk_at.result c.args.r.desk c.args.r.minute (to_z w64 (of_z w64 c.from-reading.result)) c.args.r.part c.in-Ok-New.prepared c.prepare.ensures.state c.desk_at.ensures c.requires.kept c.requires.place (search rules) (c.in-Ok-New.ensures.ready c.in-Ok-New.prepared (ap (λ z. Ok z) c.in-Ok-New.field-0-is)) in
    number_low c.args.self.now c.args.r.desk c.requires.kept t.room

pub accept-requires-clause-accepted : goal.accept-requires-clause-accepted
accept-requires-clause-accepted c =
    let t = taken_by c.prepare.new.self c.args.self.now c.desk_at.result c.args.r.desk c.args.r.minute (to_z w64 (of_z w64 c.from-reading.result)) c.args.r.part c.in-Ok-New.prepared c.prepare.ensures.state c.desk_at.ensures c.requires.kept c.requires.place (search rules) (c.in-Ok-New.ensures.ready c.in-Ok-New.prepared (ap (λ z. Ok z) c.in-Ok-New.field-0-is)) in
    accepted_low c.args.self.now c.requires.kept t.room

pub accept-requires-clause-products : goal.accept-requires-clause-products
accept-requires-clause-products c =
    let t = taken_by c.prepare.new.self c.args.self.now c.desk_at.result c.args.r.desk c.args.r.minute (to_z w64 (of_z w64 c.from-reading.result)) c.args.r.part c.in-Ok-New.prepared c.prepare.ensures.state c.desk_at.ensures c.requires.kept c.requires.place (search rules) (c.in-Ok-New.ensures.ready c.in-Ok-New.prepared (ap (λ z. Ok z) c.in-Ok-New.field-0-is)) in
    products_low c.args.self.now c.requires.kept t.room

pub accept-requires-clause-faults : goal.accept-requires-clause-faults
accept-requires-clause-faults c = omega (arith, no_fault c.args.self.now c.requires.kept)

pub returns-in-Ok-New-clause-kept : goal.returns-in-Ok-New-clause-kept
returns-in-Ok-New-clause-kept c =
    let t = taken_by c.prepare.new.self c.args.self.now c.desk_at.result c.args.r.desk c.args.r.minute (to_z w64 (of_z w64 c.from-reading.result)) c.args.r.part c.in-Ok-New.prepared c.prepare.ensures.state c.desk_at.ensures c.requires.kept c.requires.place (search rules) (c.in-Ok-New.ensures.ready c.in-Ok-New.prepared (ap (λ z. Ok z) c.in-Ok-New.field-0-is)) in
    first_if _ _ c.accept.result (accepted_if c.accept.result c.args.self.now c.accept.new.self c.prepare.new.self.state c.args.r.desk c.args.r.minute c.args.r.part c.in-Ok-New.prepared.entry c.in-Ok-New.prepared.made c.requires.kept c.requires.place t c.prepare.ensures.state c.accept.ensures.office c.accept.ensures.heard c.accept.ensures.reads c.accept.ensures.numbers c.accept.ensures.minute c.accept.ensures.accepted c.accept.ensures.refused c.accept.ensures.opened c.accept.ensures.texts)

pub returns-in-Ok-New-clause-answered : goal.returns-in-Ok-New-clause-answered
returns-in-Ok-New-clause-answered c =
    let t = taken_by c.prepare.new.self c.args.self.now c.desk_at.result c.args.r.desk c.args.r.minute (to_z w64 (of_z w64 c.from-reading.result)) c.args.r.part c.in-Ok-New.prepared c.prepare.ensures.state c.desk_at.ensures c.requires.kept c.requires.place (search rules) (c.in-Ok-New.ensures.ready c.in-Ok-New.prepared (ap (λ z. Ok z) c.in-Ok-New.field-0-is)) in
    second_if _ _ c.accept.result (accepted_if c.accept.result c.args.self.now c.accept.new.self c.prepare.new.self.state c.args.r.desk c.args.r.minute c.args.r.part c.in-Ok-New.prepared.entry c.in-Ok-New.prepared.made c.requires.kept c.requires.place t c.prepare.ensures.state c.accept.ensures.office c.accept.ensures.heard c.accept.ensures.reads c.accept.ensures.numbers c.accept.ensures.minute c.accept.ensures.accepted c.accept.ensures.refused c.accept.ensures.opened c.accept.ensures.texts)

pub returns-in-Err-No-clause-answered : goal.returns-in-Err-No-clause-answered
returns-in-Err-No-clause-answered c =
    refused_core c.args.self.now c.prepare.new.self.state c.desk_at.result (slice_index c.args.self.now.numbers c.args.r.desk + 1) c.args.r.desk c.args.r.minute (to_z w64 (of_z w64 c.from-reading.result)) c.args.r.part c.in-Err-No._refusal
    c.desk_at.ensures (next_is c.args.self.now c.args.r.desk c.requires.kept c.requires.place) (search rules) (c.in-Err-No.ensures.refused c.in-Err-No._refusal (ap (λ z. Err z) c.in-Err-No.field-0-is)) c.prepare.ensures.state
