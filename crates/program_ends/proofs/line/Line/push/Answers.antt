use Rattle.std.proofs.Common.{◌∙◌, ap, arith, List, ℕ}
use Rattle.program_ends.proofs.Keeping.{kept_with, push_short, push_full}
use Rattle.program_ends.proofs.line.Line.push.Goals as goal

pub returns-then-len-le-MOST_BYTES : goal.returns-then-len-le-MOST_BYTES
returns-then-len-le-MOST_BYTES c = λ line e.
    let kept = c.self.inside.kept in
    ap (λ (l : List ℕ). kept_with l c.self.inside.is_longer) c.push_reserved.ensures.items
    ∙ push_short (kept_with kept.items c.self.inside.is_longer) line c.args.byte (c.self.view_is ∙ e) (omega (arith, kept.ok.0, c.len.ensures))

pub returns-else-len-le-MOST_BYTES : goal.returns-else-len-le-MOST_BYTES
returns-else-len-le-MOST_BYTES c = λ line e.
    let kept = c.self.inside.kept in
    push_full (kept_with kept.items c.self.inside.is_longer) line c.args.byte (c.self.view_is ∙ e) (omega (arith, kept.ok.0, c.len.ensures))
