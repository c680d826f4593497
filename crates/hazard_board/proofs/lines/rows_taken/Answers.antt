-- Before the first line the live rows are there.
use Rattle.std.proofs.Common.{◌≡◌, ◌∙◌, ap}
use Rattle.std.specs.List.Sorted.{IsStrictlySortedBy}
use Rattle.event_life.specs.Products.{by_key}
use Rattle.event_life.specs.Shown.{shown_at}
use Rattle.hazard_board.proofs.LiveLemmas.{alike_taken, shown_twice, shown_sorted}
use Rattle.hazard_board.proofs.lines.rows_taken.Goals as goal

pub loop-line-init : goal.loop-line-init
loop-line-init c =
    let t = c.args.t in
    let before = c.args.rows.now.rows in
    let after = c.in_ok-after.after.items in
    let items : after ≡ shown_at t before = c.in_ok-after.ensures in
    let order : IsStrictlySortedBy by_key after = rw items (shown_sorted t before c.requires) in (
      alike_taken before t c.args.lines.now after before order c.requires (ap (shown_at t) items ∙ shown_twice t before),
      order,
    )
