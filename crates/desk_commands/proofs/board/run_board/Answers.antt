use Rattle.std.proofs.Common.{rules, ◌≤◌, w64, inr, sym, subst}
use Rattle.std.proofs.lemmas.Int.{to_z-of_z}
use mir.Val.{SFits}
use Rattle.office_journal.specs.Kept.{state_of}
use Rattle.desk_commands.specs.Commands.{Stays}
use Rattle.desk_commands.proofs.Moving.{told_at}
use Rattle.desk_commands.proofs.Staying.{unchanged}
use Rattle.desk_commands.proofs.board.run_board.Goals as goal

pub returns-in-Ok : goal.returns-in-Ok
returns-in-Ok g c =
    let d = g.D.Disk in
    let m = g.met.D.Disk in
    let opened = c.in-Ok.ensures.opened in
    let fits : SFits w64 c.board_at-at.result = search rules in
    inr (record {
      opened = c.in-Ok.kept;
      first = opened;
      at = c.board_at-at.result;
      reading = c.board_at-at.ensures;
      told = told_at (state_of c.in-Ok.kept) _ c.board_at-at.result _ _ _ (to_z-of_z w64 c.board_at-at.result fits) c.write_board-status.ensures;
      handed = c.into_disk.ensures;
      history = subst (λ next. Stays d c.args.disk next c.in-Ok.kept) (sym c.into_disk.ensures) (unchanged d m.seen_is_left m.are_crashes c.requests_stand_once.ensures c.args.disk c.in-Ok.kept c.a_crash_leaves_the_history.ensures opened);
      later = subst (λ next. d.faults c.args.disk ≤ d.faults next) (sym c.into_disk.ensures) opened.later;
    })
