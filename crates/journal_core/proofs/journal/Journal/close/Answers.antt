use Rattle.desk_traits.specs.declared.faults.Failed.{Failed}
use Rattle.journal_core.proofs.Steps.{on_err, close_moments, close_err, close_ok}
use Rattle.journal_core.proofs.journal.Journal.close.Goals as goal

pub returns-in_err-write_synced-clause-err : goal.returns-in_err-write_synced-clause-err
returns-in_err-write_synced-clause-err g c bodies pending s =
    let d = g.D.Disk in
    let m = g.met.D.Disk in
    on_err c.from_residual.result (close_err d.seen d.crash m.seen_is_left m.are_crashes c.args.self.now.disk c.args.self.now.gate c.args.self.now.unsure c.write_synced.new.disk bodies c.write_synced.result pending c.if-self.true s c.write_synced.ensures.seen c.write_synced.ensures.crash)

pub returns-in_err-write_synced-clause-any_moment : goal.returns-in_err-write_synced-clause-any_moment
returns-in_err-write_synced-clause-any_moment g c bodies pending s =
    let d = g.D.Disk in
    let m = g.met.D.Disk in
    close_moments d.seen d.crash m.seen_is_left m.are_crashes c.args.self.now.disk c.args.self.now.gate c.args.self.now.unsure c.write_synced.new.disk bodies pending c.if-self.true s c.write_synced.ensures.crash

pub returns-in_ok-write_synced-clause-ok : goal.returns-in_ok-write_synced-clause-ok
returns-in_ok-write_synced-clause-ok g c bodies pending s =
    let d = g.D.Disk in
    let m = g.met.D.Disk in
    close_ok d.seen d.crash m.seen_is_left m.are_crashes c.args.self.now.disk c.args.self.now.gate c.args.self.now.unsure c.write_synced.new.disk bodies Failed tt pending c.if-self.true s c.in_ok-write_synced.ensures.seen c.in_ok-write_synced.ensures.durable

pub returns-in_ok-write_synced-clause-any_moment : goal.returns-in_ok-write_synced-clause-any_moment
returns-in_ok-write_synced-clause-any_moment g c bodies pending s =
    let d = g.D.Disk in
    let m = g.met.D.Disk in
    close_moments d.seen d.crash m.seen_is_left m.are_crashes c.args.self.now.disk c.args.self.now.gate c.args.self.now.unsure c.write_synced.new.disk bodies pending c.if-self.true s c.write_synced.ensures.crash
