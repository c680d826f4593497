use Rattle.std.proofs.Common.{◌≤◌, ◌+◌, ◌-◌, ◌^◌, min, [], refl, ap, sym, ◌∙◌, subst}
use Rattle.office_journal.specs.Grown.{KeepsHistory, NonePends}
use Rattle.office_journal.specs.Kept.{disk_of, state_of}
use Rattle.program_ends.proofs.Mapping.{ends_at_last, twelve_unbegun}
use Rattle.desk_commands.specs.Scripts.{Answers, Goes, Scripted, faults_in, given_by, stood_in}
use Rattle.desk_commands.proofs.Keeping.{keeps, opened_carries}
use Rattle.desk_commands.proofs.Scripting.{gone, lines_go, stays}
use Rattle.desk_commands.proofs.Later.{lines_count, rises_on}
use Rattle.desk_commands.proofs.Readings.{lines_read}
use Rattle.desk_commands.proofs.script.answer_script.Goals as goal

pub returns : goal.returns
returns g c disk opened =
    let d = g.D.Disk in
    let k = g.C.Clock in
    let m = g.met.D.Disk in
    let run = c.answer_lines-status.ensures in
    let first : Scripted _ _ = record { kept = c.args.kept; clock = c.args.clock.now } in
    let after : Scripted _ _ = record { kept = c.answer_lines-status.new.kept; clock = c.answer_lines-status.new.clock } in
    let lines = gone d k first run.run.last run.run.lines run.told run.run.answered in
    let said = lines.0 in
    let last = ends_at_last (Answers d k) (λ s line y. ⊥) (λ s line y never. never) c.args.limit first after _ _ run.end run.told run.run in
    let goes = subst (λ z. Goes d k first run.run.lines said z) (sym last) lines.2 in
    let counted = lines_count d k first after run.run.lines said goes in
    let rises = rises_on (faults_in said) (d.faults disk) (d.faults (disk_of c.args.kept)) (d.faults (disk_of after.kept)) opened.steady counted in
    let none = twelve_unbegun (Answers d k) (λ s line y. ⊥) (λ s line y never. never) c.args.limit first after _ _ _ run in
    record {
      opened = c.args.kept;
      first = opened;
      after = after;
      clock_is = refl;
      run = run;
      said = said;
      goes = goes;
      told = lines.1;
      handed = c.into_disk.ensures;
      history = λ bytes told.
          let found = opened.found bytes told in
          let file = found.0 in
          let h = found.1 in
          let given = given_by said in
          let answered = stood_in d k [] first run.run.lines said after goes in
          let start = opened_carries d m.seen_is_left m.are_crashes file h NonePends disk c.args.kept c.a_crash_leaves_the_history.ensures opened found.3 in
          let went = lines_go d (d.faults disk) m.are_crashes k file h NonePends first run.run.lines said after goes start in
          let stay = stays d (d.faults disk) m.are_crashes k file h NonePends after [] h NonePends first run.run.lines said goes refl (λ change was. was) start in (
            file,
            h,
            subst (λ next. KeepsHistory d disk (disk_of c.args.kept) next bytes file h given answered (state_of after.kept)) (sym c.into_disk.ensures)
                (keeps d m.seen_is_left m.are_crashes c.requests_stand_once.ensures bytes file h given answered disk c.args.kept after.kept c.a_crash_leaves_the_history-2.ensures opened found.2
                went.0 went.1 stay),
          );
      faults = subst (λ next. min (d.faults disk + faults_in said) (2 ^ 64 - 1) ≤ d.faults next) (sym c.into_disk.ensures) rises.counted;
      later = subst (λ next. d.faults disk ≤ d.faults next) (sym c.into_disk.ensures) rises.later;
      readings = λ ahead told. lines_read d k ahead first after run.run.lines said told goes;
      no_memory = λ e. (none e, ap d.faults c.into_disk.ensures ∙ ap (λ (s : Scripted _ _). d.faults (disk_of s.kept)) (none e).same ∙ opened.steady);
    }
