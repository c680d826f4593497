-- What stood at the last minute stands now, and after the correction.
use Rattle.std.proofs.Common.{rules, ◌≡◌, ◌∙◌, ◌<◌, List, Some, get_or, length, ap, sym, subst}
use Rattle.std.specs.List.{AllPairs}
use Rattle.std.specs.List.Sorted.{IsStrictlySortedBy}
use Rattle.hazard_types.specs.declared.line.Line.{Line}
use Rattle.hazard_types.specs.declared.line.Row.{Row}
use Rattle.office_types.specs.declared.request.Sent.{Sent}
use Rattle.event_life.specs.Products.{by_key, rows_after}
use Rattle.segmenter.specs.Said.{IsApart}
use Rattle.action_planner.specs.Corrections.{corrected_lines}
use Rattle.action_planner.specs.Standing.{Stands}
use Rattle.worked_rows.specs.Days.{IsAt, Standing, last_of, letters_of, original_of}
use Rattle.worked_rows.proofs.DayLemmas.{apart_before, named, one_more, only_one}
use Rattle.worked_rows.proofs.SegmentLemmas.{can_be_written}
use Rattle.action_planner.specs.Corrections.{broken_correction}
use Rattle.worked_rows.proofs.board.days.Day.correct.Goals as goal

pub plan_correction-requires : goal.plan_correction-requires
plan_correction-requires c =
    let stands : Stands c.self.inside.board.rows c.self.inside.numbers.counts c.args.t =
    c.standing_conditions_persist.ensures c.self.inside.board.rows c.self.inside.numbers.counts c.self.inside.last c.args.t (rw (ap (λ (d : Standing). d.last) c.self.view_is) c.requires.later) c.self.invariant.0 in
    let before : AllPairs IsApart c.index-products-place.result.lines = apart_before c.self.inside.products c.args.place c.index-products-place.result
    (c.index-products-place.is ∙ ap (λ (xs : List Sent). get_or xs c.args.place c.index-products-place.result) c.as_slice-products.ensures) (rw (ap (λ (d : Standing). length d.products) c.self.view_is) c.requires.place) c.self.invariant.2 in
    record { apart = before; few = c.letters_of-letters.ensures.range; consistent = stands.consistent; sited = stands.sited; minute = c.requires.soon }

pub returns-clause-written : goal.returns-clause-written
returns-clause-written c =
    let rows = c.self.inside.board.rows in
    let counts = c.self.inside.numbers.counts in
    let stands : Stands c.self.inside.board.rows c.self.inside.numbers.counts c.args.t =
    c.standing_conditions_persist.ensures c.self.inside.board.rows c.self.inside.numbers.counts c.self.inside.last c.args.t (rw (ap (λ (d : Standing). d.last) c.self.view_is) c.requires.later) c.self.invariant.0 in
    can_be_written (corrected_lines rows c.args.t c.index-products-place.result.lines) c.in_ok-correction.correction.segments c.in_ok-correction.ensures.plan.segments
    (c.lines_have_four_digits.ensures.corrected rows counts c.args.t c.index-products-place.result.lines stands.numbered stands.digits)

pub invariant_of-self-2 : goal.invariant_of-self-2
invariant_of-self-2 c =
    let rows = c.self.inside.board.rows in
    let counts = c.self.inside.numbers.counts in
    let sent : Sent = c.index-products-place.result in
    let lines = corrected_lines rows c.args.t sent.lines in
    let stands : Stands c.self.inside.board.rows c.self.inside.numbers.counts c.args.t =
    c.standing_conditions_persist.ensures c.self.inside.board.rows c.self.inside.numbers.counts c.self.inside.last c.args.t (rw (ap (λ (d : Standing). d.last) c.self.view_is) c.requires.later) c.self.invariant.0 in
    let before : AllPairs IsApart c.index-products-place.result.lines = apart_before c.self.inside.products c.args.place c.index-products-place.result
    (c.index-products-place.is ∙ ap (λ (xs : List Sent). get_or xs c.args.place c.index-products-place.result) c.as_slice-products.ensures) (rw (ap (λ (d : Standing). length d.products) c.self.view_is) c.requires.place) c.self.invariant.2 in
    let kept = c.corrections_keep_what_stands.ensures rows counts sent c.last_of-last.result c.letters_of-letters.result c.args.texts.now c.args.t stands c.self.invariant.1 before c.in_ok-correction.ensures.kept in
    let after : c.apply.new.self.rows ≡ rows_after rows c.args.t lines =
    c.apply.ensures.rows ∙ ap (λ (old : List Row). rows_after old c.args.t c.in_ok-correction.correction.lines) c.reserve.ensures.rows ∙ ap (rows_after rows c.args.t) c.in_ok-correction.ensures.plan.lines in
    let apart : AllPairs IsApart c.in_ok-sent.sent.lines = subst (λ (ls : List Line). AllPairs IsApart ls) (sym (ap (λ (s : Sent). s.lines) c.in_ok-sent.ensures ∙ c.in_ok-correction.ensures.plan.lines)) (c.corrected_lines_are_distinct.ensures rows c.args.t sent.lines before) in (
      subst (λ (rs : List Row). Stands rs counts c.args.t) (sym after) kept,
      subst (λ (rs : List Row). IsStrictlySortedBy by_key rs) (sym after) (c.rows_stay_in_order.ensures rows c.args.t lines c.self.invariant.1),
      rw c.in_ok-push.ensures.ok (one_more c.self.inside.products c.in_ok-sent.sent c.self.invariant.2 apart),
    )

pub returns-in_err-correction-clause-refused : goal.returns-in_err-correction-clause-refused
returns-in_err-correction-clause-refused c r h s at =
    let rows = c.self.inside.board.rows in
    let products = c.self.inside.products in
    let before : Sent = c.index-products-place.result in
    let sent_is : before ≡ get_or products c.args.place before = c.index-products-place.is ∙ ap (λ (xs : List Sent). get_or xs c.args.place before) c.as_slice-products.ensures in
    let within : c.args.place < length products = rw (ap (λ (d : Standing). length d.products) c.self.view_is) c.requires.place in
    let last = c.last_of-last.ensures ∙ ap (λ (xs : List Sent). last_of xs before.category) c.as_slice-products.ensures in
    let letters = c.letters_of-letters.ensures.value ∙ ap (λ (xs : List Sent). letters_of xs c.original_of-original.result) c.as_slice-products.ensures in
    let broken : broken_correction rows c.args.t before c.last_of-last.result c.letters_of-letters.result c.args.texts.now ≡ Some r = search rules in
    subst (λ (d : Standing). IsAt d.products c.args.place s → broken_correction d.rows c.args.t s (last_of d.products s.category) (letters_of d.products (original_of s)) c.args.texts.now ≡ Some r) c.self.view_is
    (λ stands. named rows products c.args.t before s c.last_of-last.result c.letters_of-letters.result c.original_of-original.result c.args.texts.now r (only_one products c.args.place before s within sent_is stands) last c.original_of-original.ensures letters broken) at
