-- From their minute on the rows that may be live tell what is live.
use Rattle.std.proofs.Common.{◌∙◌, ◌≤◌, ap, arith}
use Rattle.std.proofs.lemmas.Bool.Decides.{nat_tests}
use Rattle.event_life.specs.Shown.{shown_at}
use Rattle.hazard_board.specs.Board.{Posted}
use Rattle.hazard_board.proofs.LiveLemmas.{alike_since}
use Rattle.hazard_board.proofs.board_rows.BoardRows.source.Goals as goal

pub returns-then-get-clause-alike : goal.returns-then-get-clause-alike
returns-then-get-clause-alike c =
    let from = c.get.ensures.value in
    let now = c.get-in-Some.ensures.value in
    let le : c.in-Some.since ≤ c.args.t = grind (arith, nat_tests, from, now, c.if-get.true) in
    alike_since c.self.inside.since c.in-Some.since c.args.t c.self.inside.all.rows c.self.inside.live.rows c.in-Some.is c.self.invariant.2 le
    ∙ ap (λ (p : Posted). shown_at c.args.t p.rows) c.self.view_is
