-- The rows that may clash are in order, and their first clash is that of all rows of the zone.
use Rattle.std.proofs.Common.{◌≡◌, ◌∙◌, List, false, ap, sym, filter}
use Rattle.std.specs.List.{list_any}
use Rattle.std.proofs.lemmas.List.Kept.{IsStrictlySortedBy-filter}
use Rattle.hazard_types.specs.declared.line.Row.{Row}
use Rattle.event_life.specs.Products.{by_key}
use Rattle.hazard_board.specs.Board.{slice_of}
use Rattle.hazard_board.specs.Clashes.{first_clash, may_clash}
use Rattle.hazard_board.specs.NewClashes.{lefts, is_new_clash}
use Rattle.hazard_board.specs.declared.lines.Left.{Left}
use Rattle.hazard_board.proofs.LeftLemmas.{zone_left, lefts_clash}
use Rattle.hazard_board.specs.Taken.{rows_taken}
use Rattle.hazard_board.proofs.LiveLemmas.{alike_first, alike_left}
use Rattle.hazard_board.proofs.NewClashLemmas.{no_new_clash, none_left}
use Rattle.hazard_board.proofs.SliceLemmas.{taken_in, taken_slice, slice_in_order}
use Rattle.hazard_board.proofs.QuietRows.{first_among}
use Rattle.hazard_board.proofs.Turns.{rows_taken-sorted}
use Rattle.hazard_board.proofs.conflicts.clash_in.Goals as goal

pub first_clash-requires : goal.first_clash-requires
first_clash-requires c = rw (c.deref-5.ensures.value ∙ c.in_ok-some.ensures, c.deref-4.ensures.value) (IsStrictlySortedBy-filter by_key (may_clash c.args.t) c.in_ok-after.after.items c.in_ok-after.ensures.order)

pub returns-then-not-has_new_clash : goal.returns-then-not-has_new_clash
returns-then-not-has_new_clash c =
    let t = c.args.t in
    let z = c.args.z.now in
    let rows = c.args.rows.now.rows in
    let lines = c.args.lines.now in
    let own = c.args.own.now in
    let after = c.in_ok-after.after.items in
    let all = slice_of z (rows_taken rows t lines) in
    let taken = sym (taken_slice z rows t lines c.requires.order) ∙ ap (taken_in rows t (slice_of z rows)) (sym c.requires.own) in
    let quiet : c.has_new_clash.result ≡ false = c.if-not-has_new_clash.true in
    let left : c.deref-3.result.now ≡ lefts rows t own = c.deref-3.ensures.value ∙ c.in_ok-left.ensures in
    let none =
    ap (λ (some : List Row). list_any (is_new_clash t some) (lefts rows t own)) (sym c.deref-2.ensures.value)
    ∙ ap (λ (some : List Left). list_any (is_new_clash t c.deref-2.result.now) some) (sym left)
    ∙ sym c.has_new_clash.ensures ∙ quiet in
    let live = zone_left t z rows after own lines c.deref.result.now c.requires.order c.requires.own (c.deref.ensures.value ∙ c.in_ok-left.ensures) c.in_ok-after.ensures.live in
    let none_of_all = sym (alike_left t rows after all own live) ∙ sym (lefts_clash rows t after own) ∙ none in
    sym (no_new_clash t rows all c.requires.order c.requires.apart (none_left t rows all z own c.requires.order none_of_all taken) (slice_in_order z (rows_taken rows t lines) (rows_taken-sorted rows t lines c.requires.order)))

pub returns : goal.returns
returns c =
    c.first_clash.ensures
    ∙ ap (first_clash c.args.t) (c.deref-5.ensures.value ∙ c.in_ok-some.ensures ∙ ap (filter (may_clash c.args.t)) c.deref-4.ensures.value)
    ∙ first_among c.args.t c.in_ok-after.after.items
    ∙ alike_first c.args.t c.in_ok-after.after.items (slice_of c.args.z.now (rows_taken c.args.rows.now.rows c.args.t c.args.lines.now))
    (zone_left c.args.t c.args.z.now c.args.rows.now.rows c.in_ok-after.after.items c.args.own.now c.args.lines.now c.deref.result.now c.requires.order c.requires.own (c.deref.ensures.value ∙ c.in_ok-left.ensures) c.in_ok-after.ensures.live)
