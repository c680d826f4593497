-- Lawful lines in turn leave the rows after their product, and there is memory for the openings.
use Rattle.std.proofs.Common.{◌≡◌, ◌∙◌, ◌≤◌, ◌+◌, ℕ, List, Option, length, true, sym, ap, subst, cond, arith}
use Rattle.std.specs.Vec.{vec_len, vec_capacity}
use Rattle.std.specs.List.Sorted.{IsStrictlySortedBy}
use Rattle.hazard_types.specs.declared.hazard.Event.{Event}
use Rattle.hazard_types.specs.declared.period.End.{End}
use Rattle.hazard_types.specs.declared.line.Row.{Row}
use Rattle.hazard_types.specs.declared.line.Line.{Line}
use Rattle.event_life.specs.Products.{by_key, rows_after}
use Rattle.event_life.proofs.Puts.{rows_after-sorted}
use Rattle.event_life.specs.Reordered.{are_lawful}
use Rattle.hazard_board.specs.Board.{Posted, openings}
use Rattle.hazard_board.specs.Periods.{latest_in}
use Rattle.hazard_board.specs.declared.periods.PeriodCount.{PeriodCount}
use Rattle.hazard_board.specs.Standing.{latest_end, end_in, touched, newly}
use Rattle.hazard_board.specs.Taken.{taken_in_turn}
use Rattle.hazard_board.proofs.LatestLemmas.{few_come, kept_or_set}
use Rattle.hazard_board.proofs.PeriodLemmas.{latest_is}
use Rattle.hazard_board.proofs.Turns.{lawful_turns, lawful_grow}
use Rattle.hazard_board.proofs.Board.apply.Goals as goal
use Rattle.hazard_board.proofs.Board.apply.Goals.{After-apply_lines_to_rows}

-- lawful lines make the rows no longer than by their openings
grows : (t : ℕ) (rows : List Row) (lines some : List Line) → some ≡ lines → are_lawful rows t lines ≡ true → IsStrictlySortedBy by_key rows → length (taken_in_turn t rows some) ≤ length rows + openings lines
grows t rows lines some is lawful up = rw is (lawful_grow rows t lines lawful up)

pub apply_lines_to_rows-requires-clause-room : goal.apply_lines_to_rows-requires-clause-room
apply_lines_to_rows-requires-clause-room c =
    let lawful : are_lawful c.self.inside.rows.rows c.args.t c.args.lines.now ≡ true = subst (λ (p : Posted). are_lawful p.rows c.args.t c.args.lines.now ≡ true) (sym c.self.view_is) c.requires.lawful in
    let long = grows c.args.t c.self.inside.rows.rows c.args.lines.now c.as_slice-lines.result.now c.as_slice-lines.ensures lawful c.self.invariant.0 in
    let spare = ap (λ (p : Posted). p.spare) c.self.view_is in
    omega (arith, long, spare, c.requires.spare)

pub apply_lines_to_rows-requires-clause-places : goal.apply_lines_to_rows-requires-clause-places
apply_lines_to_rows-requires-clause-places c =
    let lawful : are_lawful c.self.inside.rows.rows c.args.t c.args.lines.now ≡ true = subst (λ (p : Posted). are_lawful p.rows c.args.t c.args.lines.now ≡ true) (sym c.self.view_is) c.requires.lawful in
    let long = grows c.args.t c.self.inside.rows.rows c.args.lines.now c.as_slice-lines.result.now c.as_slice-lines.ensures lawful c.self.invariant.0 in
    let spare = ap (λ (p : Posted). p.spare) c.self.view_is in
    omega (arith, long, spare, c.requires.spare, c.self.invariant.2.count, c.self.inside.spots.ok.0, c.self.inside.spots.ok.1)

pub apply_lines_to_rows-requires-clause-counts : goal.apply_lines_to_rows-requires-clause-counts
apply_lines_to_rows-requires-clause-counts c =
    let lawful : are_lawful c.self.inside.rows.rows c.args.t c.args.lines.now ≡ true = subst (λ (p : Posted). are_lawful p.rows c.args.t c.args.lines.now ≡ true) (sym c.self.view_is) c.requires.lawful in
    let long = grows c.args.t c.self.inside.rows.rows c.args.lines.now c.as_slice-lines.result.now c.as_slice-lines.ensures lawful c.self.invariant.0 in
    let spare = ap (λ (p : Posted). p.spare) c.self.view_is in
    omega (arith, long, spare, c.requires.spare, c.self.invariant.4, c.self.invariant.2.count, c.self.inside.spots.ok.0, c.self.inside.periods.ok.0, c.self.inside.periods.ok.1)

lawful : (c : After-apply_lines_to_rows) → are_lawful c.self.inside.rows.rows c.args.t c.args.lines.now ≡ true
lawful c = subst (λ (p : Posted). are_lawful p.rows c.args.t c.args.lines.now ≡ true) (sym c.self.view_is) c.requires.lawful

turned : (c : After-apply_lines_to_rows) → c.apply_lines_to_rows.new.rows.rows ≡ rows_after c.self.inside.rows.rows c.args.t c.args.lines.now
turned c = c.apply_lines_to_rows.ensures.rows ∙ ap (λ (lines : List Line). taken_in_turn c.args.t c.self.inside.rows.rows lines) c.as_slice-lines.ensures ∙ lawful_turns c.self.inside.rows.rows c.args.t c.args.lines.now (lawful c)

come : (c : After-apply_lines_to_rows) → newly c.self.inside.standing.items c.args.lines.now ≤ openings c.args.lines.now
come c = few_come c.self.inside.rows.rows c.args.t c.args.lines.now c.self.inside.standing.items c.self.invariant.1.latest (lawful c)

ordered : (c : After-apply_lines_to_rows) → IsStrictlySortedBy by_key c.apply_lines_to_rows.new.rows.rows
ordered c = rw (turned c) (rows_after-sorted c.self.inside.rows.rows c.args.t c.args.lines.now c.self.invariant.0)

pub set_latest_ends-requires-clause-room : goal.set_latest_ends-requires-clause-room
set_latest_ends-requires-clause-room c =
    let few = come (goal.at.set_latest_ends-requires-clause-room c).After-apply_lines_to_rows in
    let spare = ap (λ (p : Posted). p.spare) c.self.view_is in
    rw (c.as_slice-lines.ensures) (omega (arith, few, spare, c.requires.spare, c.self.inside.standing.ok.0, c.self.inside.standing.ok.1))

within : (c : After-apply_lines_to_rows) → vec_len c.apply_lines_to_rows.new.spots ≤ vec_capacity c.apply_lines_to_rows.new.periods
within c =
    let long = grows c.args.t c.self.inside.rows.rows c.args.lines.now c.as_slice-lines.result.now c.as_slice-lines.ensures (lawful c) c.self.invariant.0 in
    let items = ap length c.apply_lines_to_rows.ensures.rows in
    let spare = ap (λ (p : Posted). p.spare) c.self.view_is in
    omega (arith, long, items, spare, c.requires.spare, c.self.invariant.4, c.self.invariant.2.count, c.apply_lines_to_rows.ensures.spots.count, c.apply_lines_to_rows.ensures.counts, c.self.inside.spots.ok.0, c.apply_lines_to_rows.new.spots.ok.0)

pub invariant_of-self : goal.invariant_of-self
invariant_of-self c =
    let rows = c.self.inside.rows.rows in
    let now = c.apply_lines_to_rows.new.rows.rows in
    let lines = c.args.lines.now in
    let turns : now ≡ taken_in_turn c.args.t rows lines = c.apply_lines_to_rows.ensures.rows ∙ ap (λ (some : List Line). taken_in_turn c.args.t rows some) c.as_slice-lines.ensures in
    let ends : (e : Event) → end_in c.set_latest_ends.new.standing.items e ≡ latest_end now e = λ e.
    c.set_latest_ends.ensures.ends e
    ∙ ap (λ (o : Option End). cond (touched c.as_slice-lines.result.now e) o (end_in c.self.inside.standing.items e)) (ap (λ (xs : List PeriodCount). latest_in xs e) c.deref.ensures.value ∙ latest_is now c.apply_lines_to_rows.new.periods.items c.apply_lines_to_rows.ensures.periods e)
    ∙ ap (λ (some : List Line). cond (touched some e) (latest_end now e) (end_in c.self.inside.standing.items e)) c.as_slice-lines.ensures
    ∙ kept_or_set c.args.t e rows lines now c.self.inside.standing.items turns (c.self.invariant.1.latest e) in
    rw (c.pass.ensures.rows) (
      ordered (goal.at.invariant_of-self c).After-apply_lines_to_rows,
      record { order = c.set_latest_ends.ensures.order; latest = ends },
      c.apply_lines_to_rows.ensures.spots,
      c.apply_lines_to_rows.ensures.periods,
      within (goal.at.invariant_of-self c).After-apply_lines_to_rows,
    )

pub returns-clause-rows : goal.returns-clause-rows
returns-clause-rows c = rw (← c.self.view_is) (c.pass.ensures.rows ∙ turned (goal.at.returns-clause-rows c).After-apply_lines_to_rows)

pub returns-clause-spare : goal.returns-clause-spare
returns-clause-spare c =
    let at = (goal.at.returns-clause-spare c).After-apply_lines_to_rows in
    let long = grows c.args.t c.self.inside.rows.rows c.args.lines.now c.as_slice-lines.result.now c.as_slice-lines.ensures (lawful at) c.self.invariant.0 in
    let few = come at in
    let items = ap length c.apply_lines_to_rows.ensures.rows in
    let spare = ap (λ (p : Posted). p.spare) c.self.view_is in
    let count = c.apply_lines_to_rows.ensures.spots.count in
    let counted = ap (newly c.self.inside.standing.items) c.as_slice-lines.ensures in
    omega (arith, long, few, items, spare, count, counted, c.self.invariant.2.count, c.apply_lines_to_rows.ensures.capacity, c.apply_lines_to_rows.ensures.counts, c.apply_lines_to_rows.ensures.spare, c.set_latest_ends.ensures.capacity, c.set_latest_ends.ensures.length, c.self.inside.spots.ok.0, c.apply_lines_to_rows.new.spots.ok.0)
