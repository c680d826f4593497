use Rattle.std.proofs.Common.{subst, w64}
use Rattle.std.proofs.lemmas.Int.{to_z-of_z}
use Rattle.turn_lock.specs.Story.{GrowsByOneAtMost}
use Rattle.office_journal.specs.declared.kept.KeptOffice.{KeptOffice}
use Rattle.office_turns.specs.Submitted.{Submitted}
use Rattle.office_turns.specs.Tying.{Beside}
use Rattle.office_turns.specs.declared.shared.Story.{Story}
use Rattle.office_turns.proofs.Answering.{came_of}
use Rattle.office_turns.proofs.submit.WithStory+KeptOffice+D+Story+D.submit.Goals as goal

pub invariant_of-self-2 : goal.invariant_of-self-2
invariant_of-self-2 g c =
    let d = g.D.Disk in
    let m = g.met.D.Disk in
    let story = c.self.inside.story in
    let said = c.submit_with_prepared-answer.result in
    let is = c.submit_with_prepared-answer.ensures in
    let came = came_of d m.are_crashes story.opened.value c.self.inside.kept c.submit_with_prepared-answer.new.self c.args.asked.now c.args.reading story.happenings.items c.note.new.happenings.items c.self.invariant
    _ _ _ said.0 said.1 (to_z-of_z w64 c.args.reading c.ranges.reading) c.reserve.ensures.items c.of-now.ensures (record { becomes = is.becomes; names = is.told; later = is.later }) c.note.ensures in
    came.since

pub returns-clause-submitted : goal.returns-clause-submitted
returns-clause-submitted g c =
    let d = g.D.Disk in
    let m = g.met.D.Disk in
    let story = c.self.inside.story in
    let said = c.submit_with_prepared-answer.result in
    let is = c.submit_with_prepared-answer.ensures in
    let came = came_of d m.are_crashes story.opened.value c.self.inside.kept c.submit_with_prepared-answer.new.self c.args.asked.now c.args.reading story.happenings.items c.note.new.happenings.items c.self.invariant
    _ _ _ said.0 said.1 (to_z-of_z w64 c.args.reading c.ranges.reading) c.reserve.ensures.items c.of-now.ensures (record { becomes = is.becomes; names = is.told; later = is.later }) c.note.ensures in
    subst (λ (b : Beside (KeptOffice g.row.D.Denot d) (Story g.row.D.Denot d)). Submitted b.story.opened.value b.story.happenings.items c.note.new.happenings.items c.args.asked.now c.args.reading said.0) c.self.view_is came.submitted

pub returns-clause-grows : goal.returns-clause-grows
returns-clause-grows g c =
    let d = g.D.Disk in
    let m = g.met.D.Disk in
    let story = c.self.inside.story in
    let said = c.submit_with_prepared-answer.result in
    let is = c.submit_with_prepared-answer.ensures in
    let came = came_of d m.are_crashes story.opened.value c.self.inside.kept c.submit_with_prepared-answer.new.self c.args.asked.now c.args.reading story.happenings.items c.note.new.happenings.items c.self.invariant
    _ _ _ said.0 said.1 (to_z-of_z w64 c.args.reading c.ranges.reading) c.reserve.ensures.items c.of-now.ensures (record { becomes = is.becomes; names = is.told; later = is.later }) c.note.ensures in
    subst (λ (b : Beside (KeptOffice g.row.D.Denot d) (Story g.row.D.Denot d)). GrowsByOneAtMost b.story.happenings.items c.note.new.happenings.items) c.self.view_is came.grows
