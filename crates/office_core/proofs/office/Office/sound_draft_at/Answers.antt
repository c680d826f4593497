-- An open draft is sound.
use Rattle.std.proofs.Common.{subst}
use Rattle.office_core.specs.Sound.{IsSound}
use Rattle.office_core.specs.Views.{OfficeView}
use Rattle.office_core.proofs.LookLemmas.{found_sound}
use Rattle.office_core.proofs.office.Office.sound_draft_at.Goals as goal

pub returns-clause-sound : goal.returns-clause-sound
returns-clause-sound c =
    let sound = subst (λ (o : OfficeView). IsSound o.state o.counts) c.self.view_is c.self.invariant.0 in
    found_sound c.args.self.now.state c.draft_at.result _ c.draft_at.ensures.value (c.open_drafts_are_sound.ensures c.args.self.now.state c.args.self.now.counts c.args.id sound)
