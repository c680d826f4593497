use Rattle.std.proofs.Common.{◌∙◌, ap}
use Rattle.program_ends.specs.Lines.{fit}
use Rattle.program_ends.proofs.Keeping.{kept_with, longer_unfit, all_kept}
use Rattle.program_ends.proofs.line.Line.unended.Goals as goal

pub returns-then-self : goal.returns-then-self
returns-then-self c = λ line e. longer_unfit (kept_with c.self.inside.kept.items c.self.inside.is_longer) line (c.self.view_is ∙ e) c.if-self.true

pub returns-else-self : goal.returns-else-self
returns-else-self c = λ line e. let kept = all_kept (kept_with c.self.inside.kept.items c.self.inside.is_longer) line (c.self.view_is ∙ e) c.if-self.false in
    c.line_within_limit.ensures ∙ ap fit (c.deref.ensures.value ∙ kept)
