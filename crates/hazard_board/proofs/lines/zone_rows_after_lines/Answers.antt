-- Before the first those of the zone's rows that are live are there, and rows stay in order where one is put.
use Rattle.std.proofs.Common.{◌≡◌, ◌∙◌, ap}
use Rattle.std.specs.List.Sorted.{IsStrictlySortedBy}
use Rattle.event_life.specs.Products.{by_key}
use Rattle.event_life.specs.Shown.{shown_at}
use Rattle.event_life.proofs.Puts.{put-sorted}
use Rattle.hazard_board.specs.Board.{slice_of}
use Rattle.hazard_board.proofs.LeftLemmas.{alike_lefts, put_next}
use Rattle.hazard_board.proofs.SliceLemmas.{slice_in_order}
use Rattle.hazard_board.proofs.lines.zone_rows_after_lines.Goals as goal

pub loop-one-init : goal.loop-one-init
loop-one-init c =
    let t = c.args.t in
    let z = c.args.z.now in
    let before = c.args.rows.now.rows in
    let after = c.in_ok-after.after.items in
    let items : after ≡ c.rows_in_zone_with_live.result.now = c.in_ok-after.ensures in
    let alike : shown_at t after ≡ shown_at t (slice_of z before) = ap (shown_at t) items ∙ c.rows_in_zone_with_live.ensures.alike in
    let order : IsStrictlySortedBy by_key after = rw items c.rows_in_zone_with_live.ensures.order in
    (alike_lefts t c.args.left.now after (slice_of z before) order (slice_in_order z before c.requires) alike, order)

pub loop-one-preserved : goal.loop-one-preserved
loop-one-preserved c =
    let now = c.loop-one.after.items in
    let one = c.one-item.result in (
      ap (shown_at c.args.t) (put_next now c.put.new.rows.items c.args.left.now c.loop-one.one-index one c.loop-one-test.true c.one-item.is c.in_ok-put.ensures.ok) ∙ c.loop-one.invariant.0,
      rw (c.in_ok-put.ensures.ok) (put-sorted one.row now c.loop-one.invariant.1),
    )
