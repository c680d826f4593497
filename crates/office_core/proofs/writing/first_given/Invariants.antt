-- the texts that are left decide as all do
use Rattle.std.proofs.Common.{◌≡◌, drop, map}
use Rattle.office_types.specs.declared.request.EventTexts.{EventTexts}
use Rattle.office_core.specs.TextRules.{under}
use Rattle.office_core.specs.Writing.{first_texts}
use Rattle.office_core.proofs.writing.first_given.Given as goal

abbrev pub invariant-loop-told : goal.invariant-loop-told
invariant-loop-told l = first_texts (under l.rule) (map (λ (x : EventTexts). x.texts) (drop l.told-index l.given)) ≡ first_texts (under l.rule) (map (λ (x : EventTexts). x.texts) l.given)
