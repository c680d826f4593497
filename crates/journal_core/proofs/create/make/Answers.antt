use Rattle.std.proofs.Common.{◌∙◌, ◌∷◌, [], ◌+◌, ◌≤◌, ℕ, List, Some, Option, option_map, ap, subst, length, arith}
use Rattle.desk_traits.specs.declared.faults.Failed.{Failed}
use Rattle.journal_core.specs.Create.{Starts}
use Rattle.journal_core.specs.Packet.{framed}
use Rattle.journal_core.specs.Written.{put}
use Rattle.journal_core.specs.declared.create.Start.{Start}
use Rattle.journal_core.specs.declared.create.Start.TheVariants.{Short, Begun}
use Rattle.journal_core.proofs.Steps.{only_told}
use Rattle.journal_core.proofs.Records.{record_put}
use Rattle.journal_core.proofs.Making.{looked, goes_on, dotted_on, blank_begun, starts_told}
use Rattle.journal_core.proofs.create.make.Goals as goal

pub returns-in_err-first-in-Short-clause-any_moment : goal.returns-in_err-first-in-Short-clause-any_moment
returns-in_err-first-in-Short-clause-any_moment g c file told =
    dotted_on g.D.Disk.seen g.D.Disk.crash g.met.D.Disk.are_crashes Failed tt c.args.disk.now c.look.new.disk c.write_synced.new.disk c.first-in-Short.new.disk file c.args.body.now told c.look.ensures.seen (subst (λ (s : Start). Starts s (g.D.Disk.seen c.args.disk.now)) c.in-Short.is c.in_ok-look.ensures.start) c.in_ok-look.ensures.durable c.look.ensures.crash c.in_ok-write_synced-in-Short.ensures.seen c.in_ok-write_synced-in-Short.ensures.durable c.write_synced.ensures.crash c.first-in-Short.ensures.any_moment

pub returns-in_ok-first-in-Short-clause-any_moment : goal.returns-in_ok-first-in-Short-clause-any_moment
returns-in_ok-first-in-Short-clause-any_moment g c file told =
    dotted_on g.D.Disk.seen g.D.Disk.crash g.met.D.Disk.are_crashes Failed tt c.args.disk.now c.look.new.disk c.write_synced.new.disk c.first-in-Short.new.disk file c.args.body.now told c.look.ensures.seen (subst (λ (s : Start). Starts s (g.D.Disk.seen c.args.disk.now)) c.in-Short.is c.in_ok-look.ensures.start) c.in_ok-look.ensures.durable c.look.ensures.crash c.in_ok-write_synced-in-Short.ensures.seen c.in_ok-write_synced-in-Short.ensures.durable c.write_synced.ensures.crash c.first-in-Short.ensures.any_moment

pub returns-in_ok-first-in-Begun-clause-written : goal.returns-in_ok-first-in-Begun-clause-written
returns-in_ok-first-in-Begun-clause-written g c file told was_made =
    let d = g.D.Disk in
    let begins = starts_told Begun (d.seen c.args.disk.now) file told (subst (λ (s : Start). Starts s (d.seen c.args.disk.now)) c.in-Begun.is c.in_ok-look.ensures.start) in
    let within : 0 + 1 ≤ length file = omega (arith, ap length begins.1) in
    c.in_ok-first-in-Begun.ensures.put
    ∙ ap (λ (o : Option (List ℕ)). option_map (put 0 (71 ∷ [])) (option_map (put 1 (framed c.args.body.now)) o)) (c.look.ensures.seen ∙ told)
    ∙ ap (λ (l : List ℕ). Some l) (record_put 0 c.args.body.now file within)

pub returns-in_ok-first-in-Begun-clause-any_moment : goal.returns-in_ok-first-in-Begun-clause-any_moment
returns-in_ok-first-in-Begun-clause-any_moment g c file told =
    let d = g.D.Disk in
    let m = g.met.D.Disk in
    let told' = c.look.ensures.seen ∙ told in
    let only = only_told (d.seen c.look.new.disk) (d.crash c.look.new.disk).may_leave file told' c.in_ok-look.ensures.durable in
    let begins = starts_told Begun (d.seen c.args.disk.now) file told (subst (λ (s : Start). Starts s (d.seen c.args.disk.now)) c.in-Begun.is c.in_ok-look.ensures.start) in
    goes_on d.seen d.crash m.are_crashes c.args.disk.now c.look.new.disk c.first.new.disk c.args.body.now
    (looked d.seen d.crash m.are_crashes c.args.disk.now c.look.new.disk c.args.body.now c.look.ensures.crash)
    (c.first.ensures.any_moment (blank_begun d.seen d.crash c.look.new.disk file told' only begins))
