-- Lines without a breach but NumberHeld and NoHigher, taken as lawful, leave each its row.
use Rattle.std.proofs.Common.{◌≡◌, ◌||◌, not, ℕ, List, [], ◌∷◌, ◌++◌, Bool, true, false, Option, Some, None, refl, sym, ap, cond, fold, nat_lt, unwrap_or}
use Rattle.std.specs.List.{filter, list_all}
use Rattle.std.specs.Option.{is_none}
use Rattle.std.proofs.lemmas.Bool.{and_parts}
use Rattle.hazard_types.specs.declared.codes.Action.{Action}
use Rattle.hazard_types.specs.declared.codes.Action.TheVariants.{New, Upg}
use Rattle.hazard_types.specs.declared.line.Line.{Line}
use Rattle.hazard_types.specs.declared.line.Row.{Row}
use Rattle.event_life.specs.declared.life.Around.{Around}
use Rattle.event_life.specs.declared.life.Breach.{Breach}
use Rattle.event_life.specs.declared.life.Breach.TheVariants.{Reopened, NumberHeld, ZeroBegin, TooEarly, NoLength, PeriodMoved, NotLive, TooLate, NoHigher, Twice}
use Rattle.event_life.specs.declared.life.Life.{Life}
use Rattle.event_life.specs.Periods.{ends_after, same_end}
use Rattle.event_life.specs.Products.{put, life_at, row_after, is_routine, is_second, around_of, breach_in, judged_from, put_all, rows_after}
use Rattle.event_life.specs.Reordered.{are_lawful}
use Rattle.event_life.specs.Table.{first_of, on_new, on_life, on_nothing, prints_begin_as_due, moves_begin, breach_of_line}
use Rattle.event_life.proofs.LawfulLemmas.{HaveNoBreach, lawful_of-without_breach}
use Rattle.event_life.proofs.LivesLemmas.{none_from_test}
use Rattle.hazard_board.specs.Held.{touches, rows_left, around_freed, breach_but_held, HaveNoneButHeld}
use Rattle.hazard_board.specs.Taken.{add_row_if_some, row_left, rows_taken}
use Rattle.hazard_board.proofs.Alone.{none_first, none_both, upgraded, lawful_left}

none_behind : (routine second : Bool) (o : Option Breach) → routine ≡ false → cond routine None (cond second (Some Twice) o) ≡ None → o ≡ None
none_behind true second o own h = cc
none_behind false true o own h = cc
none_behind false false o own h = h

freed_left : (rows : List Row) (t : ℕ) (earlier : List Line) (line : Line) → is_routine line.action ≡ false → breach_but_held rows t earlier line ≡ None → row_left rows t line ≡ Some (row_after rows t line)
unfolding breach_but_held
freed_left rows t earlier line own h =
    lawful_left rows t line (around_freed rows t line) own (none_behind (is_routine line.action) (is_second earlier line) (breach_of_line (life_at rows line) line t (around_freed rows t line)) own h)

taken_step : (rows : List Row) (t : ℕ) (earlier : List Line) (line : Line) (lines : List Line) (after : List Row) (routine : Bool) → is_routine line.action ≡ routine → breach_but_held rows t earlier line ≡ None →
    ((more : List Row) → fold (λ (a : List Row) (l : Line). add_row_if_some (row_left rows t l) a) more lines ≡ put_all rows t (filter touches lines) more) →
    fold (λ (a : List Row) (l : Line). add_row_if_some (row_left rows t l) a) after (line ∷ lines) ≡ put_all rows t (filter touches (line ∷ lines)) after
taken_step rows t earlier line lines after true own h more = rw own (more after)
taken_step rows t earlier line lines after false own h more = rw (freed_left rows t earlier line own h, own) (more (put (row_after rows t line) after))

taken_each : (rows : List Row) (t : ℕ) (earlier lines : List Line) → HaveNoneButHeld rows t earlier lines → (after : List Row) → fold (λ (a : List Row) (l : Line). add_row_if_some (row_left rows t l) a) after lines ≡ put_all rows t (filter touches lines) after
taken_each rows t earlier [] h after = refl
taken_each rows t earlier (line ∷ lines) h after =
    taken_step rows t earlier line lines after (is_routine line.action) refl h.0 (taken_each rows t (earlier ++ line ∷ []) lines h.1)

pub held_taken : (rows : List Row) (t : ℕ) (lines : List Line) → HaveNoneButHeld rows t [] lines → rows_taken rows t lines ≡ rows_left rows t lines
held_taken rows t lines h = taken_each rows t [] lines h rows

-- lines without a breach

abbrev freed : Around → Around
freed around = record { opened = around.opened; going = around.going; held = false; same = around.same; higher = true }

free_second : (a b : Bool) (v w : Breach) (more : List (Bool × Breach)) → first_of ((a, v) ∷ (b, w) ∷ more) ≡ None → first_of ((a, v) ∷ (false, w) ∷ more) ≡ None
free_second a b v w more h =
    let p = none_first a v ((b, w) ∷ more) h in
    none_both a v ((false, w) ∷ more) p.0 (none_first b w more p.1).1

free_new : (stands : Bool) (line : Line) (t : ℕ) (around : Around) → first_of (on_new stands line t around) ≡ None → first_of (on_new stands line t (freed around)) ≡ None
free_new stands line t around h =
    free_second (stands || around.opened) around.held Reopened NumberHeld
    ((is_none line.begin, ZeroBegin) ∷ (nat_lt (unwrap_or line.begin t) t, TooEarly) ∷ (not (ends_after line.end (unwrap_or line.begin t)), NoLength) ∷ []) h

free_on_life : (a : Action) (life : Life) (line : Line) (t : ℕ) (around : Around) → first_of (on_life a life line t around) ≡ None → first_of (on_life a life line t (freed around)) ≡ None
free_on_life New life line t around h = free_new (not life.ended) line t around h
free_on_life Upg life line t around h = upgraded life.ended (not (prints_begin_as_due line.begin life.period.begin t)) (moves_begin line.begin life.period.begin || not (same_end line.end life.period.end)) (not (ends_after life.period.end t)) (not around.higher) NotLive ZeroBegin PeriodMoved TooLate NoHigher h
free_on_life _ life line t around h = h

free_on_nothing : (a : Action) (line : Line) (t : ℕ) (around : Around) → first_of (on_nothing a line t around) ≡ None → first_of (on_nothing a line t (freed around)) ≡ None
free_on_nothing New line t around h = free_new false line t around h
free_on_nothing _ line t around h = h

free_breach : (before : Option Life) (line : Line) (t : ℕ) (around : Around) → breach_of_line before line t around ≡ None → breach_of_line before line t (freed around) ≡ None
unfolding breach_of_line
free_breach None line t around h = free_on_nothing line.action line t around h
free_breach (Some life) line t around h = free_on_life line.action life line t around h

freed_none : (rows : List Row) (t : ℕ) (all earlier : List Line) (line : Line) (routine second : Bool) → is_routine line.action ≡ routine → is_second earlier line ≡ second → breach_in rows t all earlier line ≡ None → breach_but_held rows t earlier line ≡ None
unfolding breach_in breach_but_held
freed_none rows t all earlier line true second own q h = rw own refl
freed_none rows t all earlier line false true own q h = let g = rw (own, q) at h in cc
freed_none rows t all earlier line false false own q h = rw (own, q) (free_breach (life_at rows line) line t (around_of rows t all line) (rw (own, q) at h))

freed_each : (rows : List Row) (t : ℕ) (all earlier lines : List Line) → HaveNoBreach rows t all earlier lines → HaveNoneButHeld rows t earlier lines
freed_each rows t all earlier [] h = tt
freed_each rows t all earlier (line ∷ lines) h = (freed_none rows t all earlier line (is_routine line.action) (is_second earlier line) refl refl h.0, freed_each rows t all (earlier ++ line ∷ []) lines h.1)

none_each : (rows : List Row) (t : ℕ) (all earlier lines : List Line) → list_all (λ (l : Line × Option Breach). is_none l.1) (judged_from rows t all earlier lines) ≡ true → HaveNoBreach rows t all earlier lines
none_each rows t all earlier [] h = tt
none_each rows t all earlier (line ∷ lines) h =
    let p = and_parts (is_none (breach_in rows t all earlier line)) _ h in
    (none_from_test _ p.0, none_each rows t all (earlier ++ line ∷ []) lines p.1)

pub lawful_held : (rows : List Row) (t : ℕ) (lines : List Line) → are_lawful rows t lines ≡ true → HaveNoneButHeld rows t [] lines × (rows_left rows t lines ≡ rows_after rows t lines)
unfolding rows_after
lawful_held rows t lines h =
    let none = none_each rows t lines [] lines h in
    (freed_each rows t lines [] lines none, ap (λ (ls : List Line). put_all rows t ls rows) (sym (lawful_of-without_breach rows t lines [] lines none)))
