use Rattle.std.proofs.Common.{◌∙◌}
use Rattle.desk_traits.proofs.Moments.{same_both}
use Rattle.journal_core.proofs.Steps.{on_ok, only_told}
use Rattle.journal_core.proofs.Scanning.{settles_on}
use Rattle.journal_core.proofs.adopt.find.Goals as goal

pub returns-in_ok-n-in-Other-clause-settled : goal.returns-in_ok-n-in-Other-clause-settled
returns-in_ok-n-in-Other-clause-settled g c f before told synced =
    let d = g.D.Disk in
    let m = g.met.D.Disk in
    let reads = same_both d.crash m.are_crashes c.look.new.disk c.len.new.self c.scan.new.disk c.len.ensures.crash c.scan.ensures.crash in
    on_ok c.scan.result (settles_on d.crash d.syncs before f c.look.new.disk c.scan.new.disk (c.in_ok-look.ensures.settled f before told synced) reads (c.scan.ensures.syncs ∙ c.len.ensures.syncs)
    (only_told (d.seen c.look.new.disk) (d.crash c.look.new.disk).may_leave f (c.look.ensures.seen ∙ told) c.in_ok-look.ensures.durable))
