use Rattle.std.proofs.Common.{arith, ◌≤◌, inr, [], sym, subst, ap}
use Rattle.std.proofs.lemmas.List.Elements.{All-nil}
use Rattle.office_core.specs.State.{State}
use Rattle.office_journal.specs.Grown.{KeepsHistory, NonePends, StaysSince}
use Rattle.office_journal.specs.Kept.{disk_of, state_of}
use Rattle.desk_commands.specs.Commands.{mark_given}
use Rattle.desk_commands.proofs.Keeping.{keeps, opened_carries}
use Rattle.desk_commands.proofs.Upgrading.{Says, marked, outcome, upgraded}
use Rattle.desk_commands.proofs.upgrade.run_upgrade.Goals as goal

pub returns-in-Ok : goal.returns-in-Ok
returns-in-Ok g c =
    let d = g.D.Disk in
    let m = g.met.D.Disk in
    let old = c.in-Ok.kept in
    let new = c.upgrade-upgrade.new.self in
    let opened = c.in-Ok.ensures.opened in
    let says : Says d old new c.upgrade-upgrade.result = record {
      done = c.upgrade-upgrade.ensures.done;
      already = c.upgrade-upgrade.ensures.already;
      full = c.upgrade-upgrade.ensures.full;
      room = c.upgrade-upgrade.ensures.room;
      cause = c.upgrade-upgrade.ensures.cause;
      failed = c.upgrade-upgrade.ensures.failed;
      state = c.upgrade-upgrade.ensures.state;
      untouched = c.upgrade-upgrade.ensures.untouched;
      later = c.upgrade-upgrade.ensures.later;
      any_moment = c.upgrade-upgrade.ensures.any_moment;
    } in
    let came = outcome d old new c.upgrade-upgrade.result _ _ _ _ says c.into_disk.ensures c.write_upgrade-status.ensures in
    let given = mark_given d _ old new _ _ _ came in
    inr (record {
      opened = old;
      first = opened;
      after = new;
      outcome = came;
      handed = c.into_disk.ensures;
      marked = λ file h holds. marked d old new (d.faults c.args.disk) m.are_crashes c.upgrade-upgrade.result file h says holds;
      later = subst (λ next. d.faults c.args.disk ≤ d.faults next) (sym c.into_disk.ensures) (omega (arith, opened.later, says.later));
      history = λ bytes told.
          let found = opened.found bytes told in
          let file = found.0 in
          let h = found.1 in
          let start = opened_carries d m.seen_is_left m.are_crashes file h NonePends c.args.disk old c.a_crash_leaves_the_history.ensures opened found.3 in
          let up = upgraded d old new (d.faults c.args.disk) m.are_crashes c.upgrade-upgrade.result file h _ _ _ _ says c.into_disk.ensures c.write_upgrade-status.ensures start in (
            file,
            h,
            subst (λ next. KeepsHistory d c.args.disk (disk_of old) next bytes file h given [] (state_of new)) (sym c.into_disk.ensures)
                (keeps d m.seen_is_left m.are_crashes c.requests_stand_once.ensures bytes file h given [] c.args.disk old new c.a_crash_leaves_the_history-in-Ok.ensures opened found.2
                up.carries up.run (All-nil (λ stood. StaysSince d stood (disk_of new) NonePends given file h))),
            sym (ap (λ (s : State). s.edition) up.carries.holds.history.state),
          );
    })
