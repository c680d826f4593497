-- Events that lines touch, line by line.
use Rattle.std.proofs.Common.{◌≡◌, ◌∙◌, ◌||◌, ◌&&◌, not, ℕ, zero, suc, ◌+◌, ◌-◌, ◌==◌, ◌<◌, ◌≤◌, List, [], ◌∷◌, ◌++◌, Bool, true, false, Option, Some, None, is_none, true≢false, refl, sym, ap, cond, count_by, length, get_or, take, drop, take-append-drop, arith}
use Rattle.std.proofs.lemmas.Bool.{and_parts, false_from_ne_true, not-true}
use Rattle.std.proofs.lemmas.List.{take_more}
use Rattle.std.proofs.lemmas.List.Folds.{list_any-append}
use Rattle.std.proofs.lemmas.List.Sums.{sum_by-append}
use Rattle.hazard_types.specs.Same.{same_event}
use Rattle.hazard_types.specs.declared.hazard.Event.{Event}
use Rattle.hazard_types.specs.declared.line.Line.{Line}
use Rattle.hazard_types.specs.declared.period.End.{End}
use Rattle.hazard_types.proofs.Equality.{event_one, end_one, end_itself}
use Rattle.event_life.specs.Products.{is_routine}
use Rattle.hazard_board.specs.Standing.{end_in, touches, touched, touches_anew, are_equal_ends, moves_end, newly}
use Rattle.hazard_board.specs.Periods.{latest_in}
use Rattle.hazard_board.specs.declared.periods.PeriodCount.{PeriodCount}
use Rattle.hazard_board.specs.declared.standing.Standing.{Standing}

or_true : (b : Bool) → (b || true) ≡ true
or_true true = refl
or_true false = refl

last : (a b : Bool) → (a || (b || false)) ≡ (a || b)
last true b = refl
last false true = refl
last false false = refl

grown : (lines : List Line) (i : ℕ) (line : Line) (e : Event) → i < length lines → line ≡ get_or lines i line → touched (take (i + 1) lines) e ≡ (touched (take i lines) e || (not (is_routine line.action) && same_event line.event e))
grown lines i line e within is =
    ap (λ (some : List Line). touched some e) (take_more lines i line within ∙ ap (λ (x : Line). take i lines ++ x ∷ []) (sym is))
    ∙ list_any-append (λ (l : Line). not (is_routine l.action) && same_event l.event e) (take i lines) (line ∷ [])
    ∙ last (touched (take i lines) e) _

counted : (p : Line → Bool) (lines : List Line) (i : ℕ) (line : Line) → i < length lines → line ≡ get_or lines i line → count_by p (take (i + 1) lines) ≡ count_by p (take i lines) + cond (p line) 1 0
counted p lines i line within is =
    ap (count_by p) (take_more lines i line within ∙ ap (λ (x : Line). take i lines ++ x ∷ []) (sym is))
    ∙ sum_by-append (λ (l : Line). cond (p l) 1 0) (take i lines) (line ∷ [])
    ∙ (omega arith)

front_counts : (p : Line → Bool) (lines : List Line) (i : ℕ) → count_by p (take i lines) ≤ count_by p lines
front_counts p lines i =
    let whole : count_by p lines ≡ count_by p (take i lines) + count_by p (drop i lines) = ap (count_by p) (sym (take-append-drop i lines)) ∙ sum_by-append (λ (l : Line). cond (p l) 1 0) (take i lines) (drop i lines) in
    omega (arith, whole)

-- a line at a place that touches a life of the event
pub touched_at : (e : Event) (lines : List Line) (i : ℕ) (line : Line) → i < length lines → line ≡ get_or lines i line → touches e line ≡ true → touched lines e ≡ true
touched_at e [] i line within is h = absurd (omega (arith, within))
touched_at e (l ∷ lines) zero line within is h = ap (λ (b : Bool). b || touched lines e) (ap (touches e) (sym is) ∙ h)
touched_at e (l ∷ lines) (suc i) line within is h = ap (λ (b : Bool). touches e l || b) (touched_at e lines i line (omega (arith, within)) is h) ∙ or_true (touches e l)

pub touched_last : (e : Event) (lines : List Line) (line : Line) → (length lines == 0) ≡ false → line ≡ get_or lines (length lines - 1) line → touches e line ≡ true → touched lines e ≡ true
touched_last e [] line some is h = cc
touched_last e (l ∷ lines) line some is h = touched_at e (l ∷ lines) (length (l ∷ lines) - 1) line (omega arith) is h

-- the ends after the first line of an event
anew_step : (own routine same before : Bool) (e d : Event) (new : Option End) (old was latest : Option End) → routine ≡ false → (same ≡ true → new ≡ latest) →
    old ≡ cond before latest was → cond same new old ≡ cond (before || (not routine && same)) latest was
anew_step own routine true true e d new old was latest r h o = h refl
anew_step own routine true false e d new old was latest r h o = rw r (h refl)
anew_step own routine false true e d new old was latest r h o = o
anew_step own routine false false e d new old was latest r h o = rw r o

-- the ends behind a line whose event has the end that it is to have
kept_step : (routine same before : Bool) (old was latest : Option End) → (same ≡ true → routine ≡ false → old ≡ latest) →
    old ≡ cond before latest was → old ≡ cond (before || (not routine && same)) latest was
kept_step routine same true old was latest h o = o
kept_step true same false old was latest h o = o
kept_step false true false old was latest h o = h refl refl
kept_step false false false old was latest h o = o

one_end : (a b : Option End) → are_equal_ends a b ≡ true → a ≡ b
one_end None None h = refl
one_end None (Some b) h = cc
one_end (Some a) None h = cc
one_end (Some a) (Some b) h = ap (λ (x : End). Some x) (end_one a b h)

itself_one : (a : Option End) → are_equal_ends a a ≡ true
itself_one None = refl
itself_one (Some a) = end_itself a

moved_parts : (a b : Bool) → (not a && not b) ≡ true → (a ≡ false) × (b ≡ false)
moved_parts true b h = cc
moved_parts false true h = cc
moved_parts false false h = (refl, refl)

unmoved : (a b : Bool) → (not a && not b) ≡ false → a ≡ false → b ≡ true
unmoved true b h e = cc
unmoved false true h e = refl
unmoved false false h e = cc

never_moves : (a b : Bool) → b ≡ true → (not a && not b) ≡ false
never_moves true b h = refl
never_moves false true h = refl
never_moves false false h = cc

both_not : (a b : Bool) → a ≡ false → b ≡ false → (not a && not b) ≡ true
both_not a b p q = rw (p, q) refl

module _ (rows : List PeriodCount) (lines : List Line) (was now : List Standing) (i : ℕ) (line : Line) (within : i < length lines) (is : line ≡ get_or lines i line)
    (so_far : (e : Event) → end_in now e ≡ cond (touched (take i lines) e) (latest_in rows e) (end_in was e)) where
  pub settled_anew : (after : List Standing) → touches_anew (take i lines) line ≡ true → ((d : Event) → end_in after d ≡ cond (same_event line.event d) (latest_in rows line.event) (end_in now d)) →
      (e : Event) → end_in after e ≡ cond (touched (take (i + 1) lines) e) (latest_in rows e) (end_in was e)
  settled_anew after anew set e =
      let p = and_parts (not (is_routine line.action)) _ anew in
      set e ∙ anew_step true (is_routine line.action) (same_event line.event e) (touched (take i lines) e) line.event e (latest_in rows line.event) (end_in now e) (end_in was e) (latest_in rows e) (not-true _ p.0)
      (λ h. ap (latest_in rows) (event_one line.event e h)) (so_far e)
      ∙ ap (λ (b : Bool). cond b (latest_in rows e) (end_in was e)) (sym (grown lines i line e within is))

  -- where the end of its event moves, no line before was of it
  pub moves_anew : moves_end now line (latest_in rows line.event) ≡ true → touches_anew (take i lines) line ≡ true
  moves_anew h =
      let p = moved_parts (is_routine line.action) (are_equal_ends (end_in now line.event) (latest_in rows line.event)) h in
      let first : touched (take i lines) line.event ≡ false = false_from_ne_true _ (λ g.
      let there : end_in now line.event ≡ latest_in rows line.event = so_far line.event ∙ ap (λ (b : Bool). cond b (latest_in rows line.event) (end_in was line.event)) g in
      let one : are_equal_ends (end_in now line.event) (latest_in rows line.event) ≡ true = ap (λ (o : Option End). are_equal_ends o (latest_in rows line.event)) there ∙ itself_one (latest_in rows line.event) in
      true≢false (sym one ∙ p.1)) in
      both_not (is_routine line.action) (touched (take i lines) line.event) p.0 first

  pub settled_still : moves_end now line (latest_in rows line.event) ≡ false → (e : Event) → end_in now e ≡ cond (touched (take (i + 1) lines) e) (latest_in rows e) (end_in was e)
  settled_still h e =
      kept_step (is_routine line.action) (same_event line.event e) (touched (take i lines) e) (end_in now e) (end_in was e) (latest_in rows e)
      (λ same own.
      let one = one_end (end_in now line.event) (latest_in rows line.event) (unmoved (is_routine line.action) (are_equal_ends (end_in now line.event) (latest_in rows line.event)) h own) in
      let key = event_one line.event e same in
      ap (end_in now) (sym key) ∙ one ∙ ap (latest_in rows) key) (so_far e)
      ∙ ap (λ (b : Bool). cond b (latest_in rows e) (end_in was e)) (sym (grown lines i line e within is))

  -- where it is not to be set
  pub settled_by : (b : Bool) → touched (take i lines) line.event ≡ b → (b ≡ false → moves_end now line (latest_in rows line.event) ≡ false) → (e : Event) → end_in now e ≡ cond (touched (take (i + 1) lines) e) (latest_in rows e) (end_in was e)
  settled_by false told h = settled_still (h refl)
  settled_by true told h =
      let there : end_in now line.event ≡ latest_in rows line.event = so_far line.event ∙ ap (λ (b : Bool). cond b (latest_in rows line.event) (end_in was line.event)) told in
      let one : are_equal_ends (end_in now line.event) (latest_in rows line.event) ≡ true = ap (λ (o : Option End). are_equal_ends o (latest_in rows line.event)) there ∙ itself_one (latest_in rows line.event) in
      settled_still (never_moves (is_routine line.action) (are_equal_ends (end_in now line.event) (latest_in rows line.event)) one)

  -- the event of the line has the end of before
  end_unset : touches_anew (take i lines) line ≡ true → end_in now line.event ≡ end_in was line.event
  end_unset anew =
      let p = and_parts (not (is_routine line.action)) _ anew in
      so_far line.event ∙ ap (λ (b : Bool). cond b (latest_in rows line.event) (end_in was line.event)) (not-true _ p.1)

  abbrev comes : Line → Bool
  comes l = not (is_routine l.action) && is_none (end_in was l.event)

  counts_one : touches_anew (take i lines) line ≡ true → comes line ≡ is_none (end_in now line.event)
  counts_one anew =
      let p = and_parts (not (is_routine line.action)) _ anew in
      ap (λ (b : Bool). b && is_none (end_in was line.event)) p.0 ∙ ap is_none (sym (end_unset anew))

  -- there is room for an event that comes
  room_left : (length_was length_now capacity : ℕ) → touches_anew (take i lines) line ≡ true → end_in now line.event ≡ None → length_now ≤ length_was + newly was (take i lines) → length_was + newly was lines ≤ capacity → length_now < capacity
  room_left length_was length_now capacity anew none so room =
      let more = counted comes lines i line within is in
      let one : ◌≡◌ {A = ℕ} (cond (comes line) 1 0) 1 = ap (λ (b : Bool). cond {A = ℕ} b 1 0) (counts_one anew ∙ ap is_none none) in
      let front = front_counts comes lines (i + 1) in
      omega (arith, more, one, front, so, room)

  pub room_moved : (length_was length_now capacity : ℕ) → moves_end now line (latest_in rows line.event) ≡ true → end_in now line.event ≡ None → length_now ≤ length_was + newly was (take i lines) → length_was + newly was lines ≤ capacity → length_now < capacity
  room_moved length_was length_now capacity moves = room_left length_was length_now capacity (moves_anew moves)

  pub grown_anew : (length_was length_now length_after : ℕ) → touches_anew (take i lines) line ≡ true → length_now ≤ length_was + newly was (take i lines) → length_after ≤ length_now + cond (is_none (end_in now line.event)) 1 0 → length_after ≤ length_was + newly was (take (i + 1) lines)
  grown_anew length_was length_now length_after anew so more =
      let next = counted comes lines i line within is in
      let one : ◌≡◌ {A = ℕ} (cond (comes line) 1 0) (cond (is_none (end_in now line.event)) 1 0) = ap (λ (b : Bool). cond {A = ℕ} b 1 0) (counts_one anew) in
      omega (arith, next, one, so, more)

  pub grown_still : (length_was length_now : ℕ) → length_now ≤ length_was + newly was (take i lines) → length_now ≤ length_was + newly was (take (i + 1) lines)
  grown_still length_was length_now so = let next = counted comes lines i line within is in omega (arith, next, so)
