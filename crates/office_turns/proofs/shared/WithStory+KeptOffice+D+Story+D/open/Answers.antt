use Rattle.std.proofs.Common.{List, [], sym, subst}
use Rattle.office_journal.specs.declared.kept.KeptOffice.{KeptOffice}
use Rattle.office_turns.specs.Since.{IsSince}
use Rattle.office_turns.specs.declared.happening.Happening.{Happening}
use Rattle.office_turns.proofs.Joining.{since_opened}
use Rattle.office_turns.proofs.shared.WithStory+KeptOffice+D+Story+D.open.Goals as goal

pub invariant_of-result : goal.invariant_of-result
invariant_of-result g c =
    let d = g.D.Disk in
    let m = g.met.D.Disk in
    subst (λ (l : List (Happening g.row.D.Denot d)). IsSince d c.of-opened.result.value c.args.kept l) (sym c.new.ensures.items)
    (subst (λ (k : KeptOffice g.row.D.Denot d). IsSince d k c.args.kept []) (sym c.of-opened.ensures)
    (since_opened d m.are_crashes c.args.kept c.a_crash_leaves_the_history.ensures))
