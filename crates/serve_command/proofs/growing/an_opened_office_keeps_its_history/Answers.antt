use Rattle.serve_command.proofs.Histories.{has_grown}
use Rattle.serve_command.proofs.growing.an_opened_office_keeps_its_history.Goals as goal

pub returns : goal.returns
returns g c =
    let m = g.met.D.Disk in
    has_grown g.D.Disk m.seen_is_left m.are_crashes c.requests_stand_once.ensures c.args.kept.now c.a_crash_leaves_the_history.ensures
