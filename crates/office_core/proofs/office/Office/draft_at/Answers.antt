-- An open draft was touched at an entry.
use Rattle.std.proofs.Common.{◌≡◌, Bor, option_map, rules, subst}
use Rattle.office_types.specs.declared.request.Draft.{Draft}
use Rattle.office_core.specs.Sound.{IsSound}
use Rattle.office_core.specs.State.{draft_at}
use Rattle.office_core.specs.Views.{OfficeView}
use Rattle.office_core.proofs.DraftLemmas.{touched_early}
use Rattle.office_core.proofs.office.Office.draft_at.Goals as goal

pub returns-clause-touched : goal.returns-clause-touched
returns-clause-touched c =
    let sound = subst (λ (o : OfficeView). IsSound o.state o.counts) c.self.view_is c.self.invariant.0 in
    let is : option_map (λ (d : Bor Draft). d.now) c.draft_at.result ≡ draft_at c.args.self.now.state c.args.id = search rules in
    touched_early c.args.self.now.state c.args.self.now.counts c.args.id c.draft_at.result is sound
