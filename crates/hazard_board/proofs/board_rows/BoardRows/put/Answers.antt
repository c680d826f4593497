-- A row that is put among all rows and among those that may be live leaves the same rows live among both.
use Rattle.std.proofs.Common.{◌≡◌, ◌∙◌, Bool, List, sym, ap, subst, cond}
use Rattle.std.specs.List.Sorted.{IsStrictlySortedBy}
use Rattle.hazard_types.specs.declared.line.Row.{Row}
use Rattle.event_life.specs.Products.{by_key, put}
use Rattle.event_life.proofs.Puts.{put-sorted}
use Rattle.hazard_board.proofs.LiveLemmas.{if_kept, live_put}
use Rattle.hazard_board.proofs.board_rows.BoardRows.put.Goals as goal
use Rattle.hazard_board.proofs.board_rows.BoardRows.put.Goals.{After-add_if_room}

all_sorted : (c : After-add_if_room) → IsStrictlySortedBy by_key c.put.new.self.rows
all_sorted c = subst (IsStrictlySortedBy by_key) (sym c.put.ensures.rows) (put-sorted c.args.row.now c.self.inside.all.rows c.self.invariant.0)

live_sorted : (c : After-add_if_room) → IsStrictlySortedBy by_key c.add_if_room.new.self.rows
live_sorted c =
    let row = c.args.row.now in
    let live = c.self.inside.live.rows in
    if_kept c.add_if_room.result (λ (rows : List Row). IsStrictlySortedBy by_key rows) c.add_if_room.new.self.rows (put row live) live c.add_if_room.ensures
    (λ is. subst (IsStrictlySortedBy by_key) (sym is) (put-sorted row live c.self.invariant.1))
    (λ is. subst (IsStrictlySortedBy by_key) (sym is) c.self.invariant.1)

pub invariant_of-self : goal.invariant_of-self
invariant_of-self c = let at = (goal.at.invariant_of-self c).After-add_if_room in (all_sorted at, live_sorted at, tt)

pub invariant_of-self-else-not-add_if_room : goal.invariant_of-self-else-not-add_if_room
invariant_of-self-else-not-add_if_room c =
    let at = (goal.at.invariant_of-self-else-not-add_if_room c).After-add_if_room in
    let row = c.args.row.now in
    let all = c.self.inside.all.rows in
    let live = c.self.inside.live.rows in
    let is : c.add_if_room.new.self.rows ≡ put row live = c.add_if_room.ensures ∙ ap (λ (b : Bool). cond b (put row live) live) c.if-not-add_if_room.false in (
      all_sorted at,
      live_sorted at,
      rw (c.put.ensures.rows, is) (live_put c.self.inside.since row all live c.self.invariant.0 c.self.invariant.1 c.self.invariant.2),
    )
