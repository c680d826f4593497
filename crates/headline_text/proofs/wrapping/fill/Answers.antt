-- Characters that fit on the line stand there as they are.
use Rattle.std.proofs.Common.{◌∙◌, ◌++◌, ℕ, List, ap, sym, arith}
use Rattle.headline_text.proofs.WholeWords.{fill_within, behind_within}
use Rattle.headline_text.proofs.wrapping.fill.Goals as goal

pub returns-then-word-column-clause-text : goal.returns-then-word-column-clause-text
returns-then-word-column-clause-text c =
    c.in_ok-extend.ensures.ok
    ∙ ap (λ (text : List ℕ). c.args.out.now ++ text) (sym (fill_within c.args.word.now c.args.column (omega (arith, c.if-word-column.true, c.requires))))

pub returns-then-word-column-clause-column : goal.returns-then-word-column-clause-column
returns-then-word-column-clause-column c = sym (behind_within c.args.word.now c.args.column (omega (arith, c.if-word-column.true, c.requires)))
