use Rattle.desk_traits.specs.declared.faults.Failed.{Failed}
use Rattle.std.proofs.Common.{ap, length}
use Rattle.journal_core.proofs.Steps.{on_err, open_moments, open_err, open_ok, length-push}
use Rattle.journal_core.proofs.journal.Journal.open.Goals as goal

pub returns-in_err-write_synced-clause-err : goal.returns-in_err-write_synced-clause-err
returns-in_err-write_synced-clause-err g c bodies s =
    let d = g.D.Disk in
    let m = g.met.D.Disk in
    on_err c.from_residual.result (open_err d.seen d.crash m.seen_is_left m.are_crashes c.args.self.now.disk c.args.self.now.gate c.args.self.now.unsure c.write_synced.new.disk bodies c.write_synced.result c.args.body.now s c.write_synced.ensures.seen c.write_synced.ensures.crash)

pub returns-in_err-write_synced-clause-any_moment : goal.returns-in_err-write_synced-clause-any_moment
returns-in_err-write_synced-clause-any_moment g c bodies s =
    let d = g.D.Disk in
    let m = g.met.D.Disk in
    open_moments d.seen d.crash m.seen_is_left m.are_crashes c.args.self.now.disk c.args.self.now.gate c.args.self.now.unsure c.write_synced.new.disk bodies c.args.body.now s c.write_synced.ensures.crash

pub returns-clause-ok : goal.returns-clause-ok
returns-clause-ok g c bodies s =
    let d = g.D.Disk in
    let m = g.met.D.Disk in
    (open_ok d.seen d.crash m.seen_is_left m.are_crashes c.args.self.now.disk c.args.self.now.gate c.args.self.now.unsure c.write_synced.new.disk bodies Failed tt _ c.args.body.now (length-push bodies c.args.body.now c.args.self.now.gate _ s.place (ap length c.framed.ensures.value)) s c.in_ok-write_synced.ensures.seen c.in_ok-write_synced.ensures.durable, c.in_ok-write_synced.ensures.durable)

pub returns-clause-any_moment : goal.returns-clause-any_moment
returns-clause-any_moment g c bodies s =
    let d = g.D.Disk in
    let m = g.met.D.Disk in
    open_moments d.seen d.crash m.seen_is_left m.are_crashes c.args.self.now.disk c.args.self.now.gate c.args.self.now.unsure c.write_synced.new.disk bodies c.args.body.now s c.write_synced.ensures.crash
