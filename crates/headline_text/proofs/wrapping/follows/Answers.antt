use Rattle.std.proofs.Common.{arith}
use Rattle.std.proofs.lemmas.Bool.{eqb-true}
use Rattle.headline_text.proofs.Pieces.{follows_so}
use Rattle.headline_text.proofs.wrapping.follows.Goals as goal

pub returns : goal.returns
returns c blank =
    follows_so c.args.text.now c.args.column c.args.to c.args.start c.args.end c.requires.start c.requires.end c.if-column-eq0.false
    (omega (arith, c.if-start-to.false)) c.if-start-end.false (omega (arith, c.if-column-end-gt-WIDTH.false)) (eqb-true _ _ blank)
