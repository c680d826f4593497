-- Where the end of a line's event moves it is set: no line before was of it. Else it stands already.
use Rattle.std.proofs.Common.{◌≡◌, ◌∙◌, false, List, Option, take, refl, ap, sym, cond, arith}
use Rattle.hazard_types.specs.Same.{same_event}
use Rattle.hazard_types.specs.declared.period.End.{End}
use Rattle.hazard_board.specs.Periods.{latest_in}
use Rattle.hazard_board.specs.Standing.{end_in, touched, moves_end}
use Rattle.hazard_board.specs.declared.standing.Standing.{Standing}
use Rattle.hazard_board.proofs.SettleLemmas.{settled_anew, settled_by, moves_anew, room_moved, grown_anew, grown_still}
use Rattle.hazard_board.proofs.standing.set_latest_ends.Goals as goal
use Rattle.hazard_board.proofs.standing.set_latest_ends.Goals.{then-is_end_to_set, else-is_end_to_set}

pub set_end-requires-clause-room : goal.set_end-requires-clause-room
set_end-requires-clause-room c some none =
    let line = c.index-lines-place.result in
    let moves = ap (λ (some : List Standing). moves_end some line (latest_in c.args.periods.now line.event)) (sym c.deref.ensures.value) ∙ c.is_end_to_set.ensures.moves c.if-is_end_to_set.true in
    room_moved c.args.periods.now c.args.lines.now c.args.standing.now.items c.loop-place.standing.items c.loop-place.place line c.loop-place-test.true c.index-lines-place.is c.loop-place.invariant.ends
    _ _ _ moves none c.loop-place.invariant.length (omega (arith, c.requires.room, c.loop-place.invariant.capacity))

pub loop-place-preserved : goal.loop-place-preserved
loop-place-preserved c =
    let rows = c.args.periods.now in
    let lines = c.args.lines.now in
    let was = c.args.standing.now.items in
    let now = c.loop-place.standing.items in
    let i = c.loop-place.place in
    let line = c.index-lines-place.result in
    elim c.if-is_end_to_set.branch [
      | then-is_end_to_set w ↦
          let moves = ap (λ (some : List Standing). moves_end some line (latest_in rows line.event)) (sym c.deref.ensures.value) ∙ c.is_end_to_set.ensures.moves w.if-is_end_to_set.true in
          let first = moves_anew rows lines was now i line c.loop-place-test.true c.index-lines-place.is c.loop-place.invariant.ends moves in
          record {
            order = rw (w.standing-is) w.set_end.ensures.order;
            ends = rw (w.standing-is) (settled_anew rows lines was now i line c.loop-place-test.true c.index-lines-place.is c.loop-place.invariant.ends w.set_end.new.standing.items first (λ d. w.set_end.ensures.ends d ∙ ap (λ (o : Option End). cond (same_event line.event d) o (end_in now d)) w.latest_in-latest.ensures));
            capacity = rw (w.standing-is) (omega (arith, c.loop-place.invariant.capacity, w.set_end.ensures.capacity));
            length = rw (w.standing-is) (grown_anew rows lines was now i line c.loop-place-test.true c.index-lines-place.is c.loop-place.invariant.ends _ _ _ first c.loop-place.invariant.length w.set_end.ensures.length);
          }
      | else-is_end_to_set w ↦
          let still : touched (take i lines) line.event ≡ false → moves_end now line (latest_in rows line.event) ≡ false = λ h.
          ap (λ (some : List Standing). moves_end some line (latest_in rows line.event)) (sym c.deref.ensures.value) ∙ c.is_end_to_set.ensures.stays w.if-is_end_to_set.false h in
          record {
            order = rw (w.standing-is) c.loop-place.invariant.order;
            ends = rw (w.standing-is) (settled_by rows lines was now i line c.loop-place-test.true c.index-lines-place.is c.loop-place.invariant.ends (touched (take i lines) line.event) refl still);
            capacity = rw (w.standing-is) c.loop-place.invariant.capacity;
            length = rw (w.standing-is) (grown_still rows lines was now i line c.loop-place-test.true c.index-lines-place.is c.loop-place.invariant.ends _ _ c.loop-place.invariant.length);
          }
    ]
