-- The rows that are live at a minute are those of all that are live then.
use Rattle.std.proofs.Common.{◌≡◌, ◌∙◌, sym, ap, subst}
use Rattle.std.specs.List.Sorted.{IsStrictlySortedBy}
use Rattle.event_life.specs.Products.{by_key}
use Rattle.event_life.specs.Shown.{shown_at}
use Rattle.hazard_board.specs.Board.{Posted}
use Rattle.hazard_board.proofs.LiveLemmas.{shown_twice, shown_sorted}
use Rattle.hazard_board.proofs.board_rows.BoardRows.renew.Goals as goal
use Rattle.hazard_board.proofs.board_rows.BoardRows.renew.Goals.{In_ok-live}

found : (c : In_ok-live) → c.in_ok-live.live.items ≡ shown_at c.in-Some.t c.self.inside.all.rows
found c = c.in_ok-live.ensures ∙ ap (λ (p : Posted). shown_at c.in-Some.t p.rows) (sym c.self.view_is)

pub from_rows-requires : goal.from_rows-requires
from_rows-requires c =
    let items = found (goal.at.from_rows-requires c).In_ok-live in
    subst (IsStrictlySortedBy by_key) (sym items) (shown_sorted c.in-Some.t c.self.inside.all.rows c.self.invariant.0)

pub invariant_of-self : goal.invariant_of-self
invariant_of-self c =
    let t = c.in-Some.t in
    let all = c.self.inside.all.rows in
    let items : c.from_rows.result.rows ≡ shown_at t all = c.from_rows.ensures ∙ found (goal.at.invariant_of-self c).In_ok-live in (
      c.self.invariant.0,
      subst (IsStrictlySortedBy by_key) (sym items) (shown_sorted t all c.self.invariant.0),
      ap (shown_at t) items ∙ shown_twice t all,
    )
