use Rattle.std.proofs.Common.{◌≡◌, ◌∙◌, ℕ, ap, subst, IfOk}
use Rattle.archive_report.specs.Readings.{count_in}
use Rattle.archive_report.proofs.FrameCounts.{frame_counted}
use Rattle.archive_report.proofs.counts.count_by_frame.Goals as goal

pub returns : goal.returns
returns c =
    let segments = ap (count_in c.args.asked.now) c.as_slice.ensures in
    subst (λ (n : ℕ). IfOk c.count_in.result (λ (count : ℕ). count ≡ n)) (segments ∙ frame_counted c.args.asked.now c.args.frame.now) c.count_in.ensures
