-- A line of each kind, on the row that it meets, has no breach.
use Rattle.std.proofs.Common.{◌≡◌, ◌&&◌, ◌||◌, not, ℕ, ◌+◌, ◌≤◌, List, [], ◌∷◌, Bool, true, false, Option, Some, None, refl, sym, ap, ◌∙◌, cond, min, unwrap_or, option_map, arith, nat_lt, nat_le}
use Rattle.std.proofs.lemmas.Bool.{and_parts, and_from, and_right, or_parts, or_from, not-false, not-true, not_from_true, ltb-true, ltb-false, leb-true, leb-false, lt-ltb, le-ltb, eq-eqb}
use Rattle.std.specs.List.{AllByRecursion}
use Rattle.hazard_types.specs.Places.{Place}
use Rattle.hazard_types.specs.Same.{same_event}
use Rattle.hazard_types.specs.declared.codes.Action.{Action}
use Rattle.hazard_types.specs.declared.codes.Action.TheVariants.{Con, Cor, Exa, Exb, Upg, Can, Exp}
use Rattle.hazard_types.specs.declared.hazard.Event.{Event}
use Rattle.hazard_types.specs.declared.line.Line.{Line}
use Rattle.hazard_types.specs.declared.line.Row.{Row}
use Rattle.hazard_types.specs.declared.period.End.{End}
use Rattle.hazard_types.specs.declared.period.End.TheVariants.{At, Ufn}
use Rattle.hazard_types.specs.declared.period.Period.{Period}
use Rattle.office_types.specs.declared.request.PutPart.{PutPart}
use Rattle.office_types.specs.declared.request.Target.{Target}
use Rattle.office_types.specs.declared.request.Target.TheVariants.{Fresh, Join}
use Rattle.event_life.specs.declared.life.Around.{Around}
use Rattle.event_life.specs.declared.life.Breach.{Breach}
use Rattle.event_life.specs.declared.life.Breach.TheVariants.{TooEarly, PeriodMoved, PeriodSame, TooLate, NoHigher}
use Rattle.event_life.specs.Periods.{ends_after, is_not_long_past, is_live, keeps_open, same_at, same_end}
use Rattle.event_life.specs.Table.{first_of, on_continuing, on_ending, prints_begin_as_due, moves_begin, prints_begun, prints_to_come, expires_early, expires_late, cancels_late, continued_period, keeps_period, breach_of_line}
use Rattle.event_life.specs.Products.{around_but_higher, has_rows, is_number_held, is_open, is_upgrade, life_at, life_of, row_at}
use Rattle.event_life.proofs.Puts.{at_key, at_key-parts}
use Rattle.hazard_board.specs.Board.{has_period}
use Rattle.office_types.specs.declared.request.Intent.TheVariants.{Put}
use Rattle.action_planner.specs.Placed.{Placed, is_opening_target}
use Rattle.action_planner.specs.Cases.{IsAbsent}
use Rattle.action_planner.specs.Lines.{minute_of, period_of_put, period_of_put_on, printed_begin, opening_action, continuing_line, unless_ended, joined_row, put_line_on, line_of_put, line_on, is_near_end, is_overlaid, finishing_action, routine_line}
use Rattle.action_planner.specs.Offences.{is_bad_period, has_row_by, is_join_target, was_left}
use Rattle.action_planner.proofs.LawfulLists.{found, none_of, no_find, all_weaker}

-- the line has no breach, whatever is said of a higher row; only UPG needs one
abbrev pub IsSound : List Row → ℕ → Line → Type 0
IsSound rows t line = (b : Bool) → (is_upgrade line.action ≡ true → b ≡ true) → breach_of_line (life_at rows line) line t (around_but_higher rows t line b) ≡ None

-- none of the tests holds
abbrev NoneHolds : List (Bool × Breach) → Type 0
NoneHolds [] = Unit {0}
NoneHolds (row ∷ rows) = (row.0 ≡ false) × NoneHolds rows

none_first : (rows : List (Bool × Breach)) → NoneHolds rows → first_of rows ≡ None
none_first [] h = refl
none_first (row ∷ rows) h = rw h.0 (none_first rows h.1)

-- rows

pub row_at-parts : (rows : List Row) (e : Event) (z : Place) (row : Row) → row_at rows e z ≡ Some row → (row.event ≡ e) × (row.zone ≡ z)
row_at-parts rows e z row h = at_key-parts e z row (found (at_key e z) rows row h)

-- the row is the one of its own event and zone
pub row_at-own : (rows : List Row) (e : Event) (z : Place) (row : Row) → row_at rows e z ≡ Some row → row_at rows row.event row.zone ≡ Some row
row_at-own rows e z row h =
    let p = row_at-parts rows e z row h in
    ap (λ (x : Event). row_at rows x row.zone) p.0 ∙ ap (λ (y : Place). row_at rows e y) p.1 ∙ h

-- an event without rows has none in a zone
pub no_row : (rows : List Row) (e : Event) (z : Place) → has_rows rows e ≡ false → row_at rows e z ≡ None
no_row rows e z h =
    let none : AllByRecursion (λ (r : Row). same_event r.event e ≡ false) rows = none_of (λ (r : Row). same_event r.event e) rows h in
    no_find (at_key e z) rows (all_weaker (λ (r : Row). same_event r.event e ≡ false) (λ (r : Row). at_key e z r ≡ false) (λ r g. rw g) rows none)

-- the row that no line has ended

ended_by : (row : Row) (b : Bool) → row.ended ≡ b → cond b None (Some row) ≡ None → row.ended ≡ true
ended_by row true e h = e
ended_by row false e h = cc

pub absent_from : (o : Option Row) → unless_ended o ≡ None → IsAbsent o
absent_from None h = tt
absent_from (Some row) h = ended_by row row.ended refl h

pub absent_to : (o : Option Row) → IsAbsent o → unless_ended o ≡ None
absent_to None h = refl
absent_to (Some row) h = rw h refl

going_by : (own row : Row) (b : Bool) → own.ended ≡ b → cond b None (Some own) ≡ Some row → (own ≡ row) × (row.ended ≡ false)
going_by own row true e h = cc
going_by own row false e h = let same : own ≡ row = cc in (same, ap (λ (r : Row). r.ended) (sym same) ∙ e)

pub going_from : (o : Option Row) (row : Row) → unless_ended o ≡ Some row → (o ≡ Some row) × (row.ended ≡ false)
going_from None row h = cc
going_from (Some own) row h = let p = going_by own row own.ended refl h in (ap Some p.0, p.1)

pub going_to : (o : Option Row) (row : Row) → o ≡ Some row → row.ended ≡ false → unless_ended o ≡ Some row
going_to o row h going = ap unless_ended h ∙ rw going refl

-- NEW, EXA, EXB

period_parts : (part : PutPart) (t : ℕ) → is_bad_period part t ≡ false → (nat_lt (minute_of part.begin t) t ≡ false) × (ends_after part.end (minute_of part.begin t) ≡ true) × (ends_after part.end t ≡ true)
period_parts part t h =
    let p = or_parts (nat_lt (minute_of part.begin t) t) _ h in
    let q = and_parts (ends_after part.end (minute_of part.begin t)) _ (not-false _ p.1) in
    (p.0, q.0, q.1)

joining_sound : (rows : List Row) (t : ℕ) (e : Event) (part : PutPart) (z : Place) (same : Bool) (o : Option Row) → has_period rows e (period_of_put part t) t ≡ same →
    is_open rows t e ≡ true → row_at rows e z ≡ o → IsAbsent o → is_bad_period part t ≡ false →
    IsSound rows t (record { action = cond same Exa Exb; event = e; zone = z; begin = Some (minute_of part.begin t); end = part.end; flood = part.flood })
unfolding breach_of_line
joining_sound rows t e part z true None same going at away ok b u =
    let p = period_parts part t ok in
    rw (at, going, p.0, p.1, same) refl
joining_sound rows t e part z false None same going at away ok b u =
    let p = period_parts part t ok in
    rw (at, going, p.0, p.1, same) refl
joining_sound rows t e part z true (Some row) same going at away ok b u =
    let p = period_parts part t ok in
    rw (at, away, going, p.0, p.1, same) refl
joining_sound rows t e part z false (Some row) same going at away ok b u =
    let p = period_parts part t ok in
    rw (at, away, going, p.0, p.1, same) refl

pub opening_sound : (rows : List Row) (t : ℕ) (e : Event) (part : PutPart) (z : Place) (target : Target) →
    (is_opening_target target ≡ true → (has_rows rows e ≡ false) × (is_number_held rows t e ≡ false)) → (is_opening_target target ≡ false → is_open rows t e ≡ true) →
    joined_row rows e z target ≡ None → is_bad_period part t ≡ false →
    IsSound rows t (record { action = opening_action rows t e part target; event = e; zone = z; begin = Some (minute_of part.begin t); end = part.end; flood = part.flood })
unfolding breach_of_line
opening_sound rows t e part z (Fresh h) new going none ok b u =
    let n = new refl in
    let p = period_parts part t ok in
    rw (no_row rows e z n.0, n.0, n.1, p.0, p.1) refl
opening_sound rows t e part z (Join d) new going none ok b u =
    joining_sound rows t e part z (has_period rows e (period_of_put part t) t) (row_at rows e z) refl (going refl) refl (absent_from (row_at rows e z) none) ok b u

-- CON, EXT

ends_earlier : (end : End) (m t : ℕ) → m ≤ t → ends_after end t ≡ true → ends_after end m ≡ true
ends_earlier (At n) m t le h = lt-ltb m n (omega (arith, ltb-true t n h))
ends_earlier Ufn m t le h = refl

printed_none : (m t : ℕ) → nat_le m t ≡ true → printed_begin m t ≡ None
printed_none m t h = rw h refl

printed_some : (m t : ℕ) → nat_le m t ≡ false → printed_begin m t ≡ Some m
printed_some m t h = rw h refl

-- the begin is printed where it is after the minute, and only there
not_past_by : (m t : ℕ) (b : Bool) → nat_le m t ≡ b → prints_begun (printed_begin m t) t ≡ false
not_past_by m t true h = rw h refl
not_past_by m t false h = rw h h

not_past : (m t : ℕ) → prints_begun (printed_begin m t) t ≡ false
not_past m t = not_past_by m t (nat_le m t) refl

-- the begin that a put's line leaves is the one that the put gives
begin_by : (own b t : ℕ) (x y : Bool) → nat_le own t ≡ x → nat_le b t ≡ y → nat_lt b t ≡ false → unwrap_or (printed_begin (cond x own b) t) (min own t) ≡ cond x own b
begin_by own b t true y h g ok = rw (printed_none own t h) (let le = leb-true own t h in omega (arith, le))
begin_by own b t false true h g ok = rw (printed_none b t g) (let gt = leb-false own t h in let le = leb-true b t g in let ge = ltb-false b t ok in omega (arith, gt, le, ge))
begin_by own b t false false h g ok = rw (printed_some b t g) refl

not_moved_by : (own b t : ℕ) (x : Bool) → nat_le own t ≡ x → (prints_to_come (printed_begin (cond x own b) t) t && x) ≡ false
not_moved_by own b t true h = rw (printed_none own t h) refl
not_moved_by own b t false h = and_right (prints_to_come (printed_begin b t) t) false refl

ends_by : (own b t : ℕ) (end : End) (x : Bool) → nat_le own t ≡ x → ends_after end b ≡ true → ends_after end t ≡ true → ends_after end (cond x own b) ≡ true
ends_by own b t end true h e f = ends_earlier end own t (leb-true own t h) f
ends_by own b t end false h e f = e

live_parts : (t : ℕ) (row : Row) → is_live t row ≡ true → (row.ended ≡ false) × (ends_after row.period.end t ≡ true)
live_parts t row h = let p = and_parts (not row.ended) _ h in (not-true row.ended p.0, p.1)

-- the period that a put's line leaves is the one that the put gives
pub continued_by_put : (t : ℕ) (e : Event) (part : PutPart) (row : Row) → is_bad_period part t ≡ false → continued_period (life_of row) (continuing_line t e part row) t ≡ period_of_put_on part t row
continued_by_put t e part row ok =
    let p = period_parts part t ok in
    let same = begin_by row.period.begin (minute_of part.begin t) t (nat_le row.period.begin t) (nat_le (minute_of part.begin t) t) refl refl p.0 in
    ap (λ (m : ℕ). record { begin = m; end = part.end }) same

continuing_parts : (rows : List Row) (t : ℕ) (e : Event) (part : PutPart) (row : Row) (last : Bool × Breach) → is_live t row ≡ true → is_bad_period part t ≡ false → last.0 ≡ false → first_of (on_continuing (life_of row) (continuing_line t e part row) t last) ≡ None
continuing_parts rows t e part row last live ok l =
    let p = period_parts part t ok in
    let v = live_parts t row live in
    let own = row.period.begin in
    let b = minute_of part.begin t in
    let x = nat_le row.period.begin t in
    let first : (row.ended || not (ends_after row.period.end t)) ≡ false = or_from row.ended _ v.0 (not_from_true _ v.1) in
    let left : ends_after part.end (continued_period (life_of row) (continuing_line t e part row) t).begin ≡ true =
    ap (λ (q : Period). ends_after part.end q.begin) (continued_by_put t e part row ok) ∙ ends_by own b t part.end x refl p.1 p.2 in
    none_first (on_continuing (life_of row) (continuing_line t e part row) t last)
    (first, (not_past (cond x own b) t, (not_moved_by own b t x refl, (not_from_true _ (and_from _ _ left p.2), (l, tt)))))

continuing_by : (rows : List Row) (t : ℕ) (e : Event) (part : PutPart) (row : Row) (same : Bool) → same_at t row.period (period_of_put_on part t row) ≡ same → is_live t row ≡ true → is_bad_period part t ≡ false → (b : Bool) →
    breach_of_line (Some (life_of row)) (continuing_line t e part row) t (around_but_higher rows t (continuing_line t e part row) b) ≡ None
unfolding breach_of_line
continuing_by rows t e part row true same live ok b =
    let still : keeps_period (life_of row) (continuing_line t e part row) t ≡ true = ap (same_at t row.period) (continued_by_put t e part row ok) ∙ same in
    rw same (continuing_parts rows t e part row (not (keeps_period (life_of row) (continuing_line t e part row) t), PeriodMoved) live ok (not_from_true _ still))
continuing_by rows t e part row false same live ok b =
    let still : keeps_period (life_of row) (continuing_line t e part row) t ≡ false = ap (same_at t row.period) (continued_by_put t e part row ok) ∙ same in
    rw same (continuing_parts rows t e part row (keeps_period (life_of row) (continuing_line t e part row) t, PeriodSame) live ok still)

pub continuing_sound : (rows : List Row) (t : ℕ) (e : Event) (z : Place) (part : PutPart) (row : Row) → row_at rows e z ≡ Some row → is_live t row ≡ true → is_bad_period part t ≡ false → IsSound rows t (continuing_line t e part row)
continuing_sound rows t e z part row h live ok b u =
    let p = row_at-parts rows e z row h in
    let here : row_at rows e row.zone ≡ Some row = ap (λ (y : Place). row_at rows e y) p.1 ∙ h in
    rw here (continuing_by rows t e part row (same_at t row.period (period_of_put_on part t row)) refl live ok b)

joined_parts : (rows : List Row) (e : Event) (z : Place) (target : Target) (row : Row) → joined_row rows e z target ≡ Some row → (is_join_target target ≡ true) × (row_at rows e z ≡ Some row) × (row.ended ≡ false)
joined_parts rows e z (Fresh h) row g = cc
joined_parts rows e z (Join d) row g = let p = going_from (row_at rows e z) row g in (refl, p.0, p.1)

-- a row that no line has ended is live where it is not left before
abbrev pub is_lapsed : ℕ → Row → Bool
is_lapsed t row = not row.ended && not (is_live t row)

lives_by : (x live : Bool) → x ≡ false → (not x && not live) ≡ false → live ≡ true
lives_by true live e h = cc
lives_by false live e h = not-false live h

pub not_dead : (o : Option Row) (t : ℕ) (row : Row) → o ≡ Some row → row.ended ≡ false → has_row_by (is_lapsed t) o ≡ false → is_live t row ≡ true
not_dead None t row e going h = cc
not_dead (Some r) t row e going h =
    let same : r ≡ row = cc in
    lives_by row.ended (is_live t row) going (ap (is_lapsed t) (sym same) ∙ h)

-- a put's line in a zone
put_by : (rows : List Row) (t : ℕ) (e : Event) (part : PutPart) (z : Place) (o : Option Row) → joined_row rows e z part.target ≡ o →
    (is_opening_target part.target ≡ true → (has_rows rows e ≡ false) × (is_number_held rows t e ≡ false)) → (is_opening_target part.target ≡ false → is_open rows t e ≡ true) →
    is_bad_period part t ≡ false → was_left rows t e (Put part) z ≡ false → IsSound rows t (put_line_on rows t e part z o)
put_by rows t e part z None h new going ok live = opening_sound rows t e part z part.target new going h ok
put_by rows t e part z (Some row) h new going ok live =
    let j = joined_parts rows e z part.target row h in
    let dead : has_row_by (is_lapsed t) (row_at rows e z) ≡ false = rw j.0 at live in
    continuing_sound rows t e z part row j.1 (not_dead (row_at rows e z) t row j.1 j.2 dead) ok

pub put_sound : (rows : List Row) (t : ℕ) (e : Event) (part : PutPart) (z : Place) →
    (is_opening_target part.target ≡ true → (has_rows rows e ≡ false) × (is_number_held rows t e ≡ false)) → (is_opening_target part.target ≡ false → is_open rows t e ≡ true) →
    is_bad_period part t ≡ false → was_left rows t e (Put part) z ≡ false → IsSound rows t (line_of_put rows t e part z)
put_sound rows t e part z = put_by rows t e part z (joined_row rows e z part.target) refl

-- CON of a row as it is

own_begin_by : (m t : ℕ) (x : Bool) → nat_le m t ≡ x → unwrap_or (printed_begin m t) (min m t) ≡ m
own_begin_by m t true h = rw h (let le = leb-true m t h in omega (arith, le))
own_begin_by m t false h = rw h refl

own_moved_by : (m t : ℕ) (x : Bool) → nat_le m t ≡ x → (prints_to_come (printed_begin m t) t && nat_le m t) ≡ false
own_moved_by m t true h = rw h refl
own_moved_by m t false h = and_right (prints_to_come (printed_begin m t) t) (nat_le m t) h

-- the row goes on with its period
pub continued_as_is : (t : ℕ) (row : Row) → continued_period (life_of row) (line_on Con t row) t ≡ row.period
continued_as_is t row = ap (λ (m : ℕ). record { begin = m; end = row.period.end }) (own_begin_by row.period.begin t (nat_le row.period.begin t) refl)

same_end-itself : (end : End) → same_end end end ≡ true
same_end-itself (At m) = eq-eqb m m refl
same_end-itself Ufn = refl

same_at-itself : (t : ℕ) (p : Period) → same_at t p p ≡ true
same_at-itself t p = and_from _ _ (same_end-itself p.end) (rw (eq-eqb p.begin p.begin refl) refl)

-- a line that says of a live row what it is keeps the period
kept_sound : (action : Action) (t : ℕ) (row : Row) → is_live t row ≡ true → ends_after row.period.end row.period.begin ≡ true →
    first_of (on_continuing (life_of row) (line_on action t row) t (not (keeps_period (life_of row) (line_on action t row) t), PeriodMoved)) ≡ None
kept_sound action t row live long =
    let v = live_parts t row live in
    let m = row.period.begin in
    let first : (row.ended || not (ends_after row.period.end t)) ≡ false = or_from row.ended _ v.0 (not_from_true _ v.1) in
    let left : ends_after row.period.end (continued_period (life_of row) (line_on action t row) t).begin ≡ true = ap (λ (q : Period). ends_after row.period.end q.begin) (continued_as_is t row) ∙ long in
    let still : keeps_period (life_of row) (line_on action t row) t ≡ true = ap (same_at t row.period) (continued_as_is t row) ∙ same_at-itself t row.period in
    none_first (on_continuing (life_of row) (line_on action t row) t (not (keeps_period (life_of row) (line_on action t row) t), PeriodMoved))
    (first, (not_past m t, (own_moved_by m t (nat_le m t) refl, (not_from_true _ (and_from _ _ left v.1), (not_from_true _ still, tt)))))

pub con_sound : (rows : List Row) (t : ℕ) (row : Row) → row_at rows row.event row.zone ≡ Some row → is_live t row ≡ true → ends_after row.period.end row.period.begin ≡ true → IsSound rows t (line_on Con t row)
unfolding breach_of_line
con_sound rows t row h live long b u = rw h (kept_sound Con t row live long)

pub cor_sound : (rows : List Row) (t : ℕ) (row : Row) → row_at rows row.event row.zone ≡ Some row → is_live t row ≡ true → ends_after row.period.end row.period.begin ≡ true → IsSound rows t (line_on Cor t row)
unfolding breach_of_line
cor_sound rows t row h live long b u = rw h (kept_sound Cor t row live long)

-- CAN, EXP, UPG

prints_by : (m t : ℕ) (x : Bool) → nat_le m t ≡ x → (prints_begin_as_due (printed_begin m t) m t ≡ true) × (moves_begin (printed_begin m t) m ≡ false)
prints_by m t true h = (rw h h, rw h refl)
prints_by m t false h = (rw h (lt-ltb t m (leb-false m t h)), rw (h, eq-eqb m m refl) refl)

expires_in_time : (end : End) (t : ℕ) → is_near_end end t ≡ true → (expires_early end t ≡ false) × (expires_late end t ≡ false)
expires_in_time (At m) t h =
    let p = and_parts (nat_le m (t + 30)) _ h in
    (le-ltb (t + 30) m (leb-true m (t + 30) p.0), le-ltb (m + 30) t (leb-true t (m + 30) p.1))
expires_in_time Ufn t h = cc

late_by : (m t : ℕ) (x : Bool) → nat_le m (t + 30) ≡ x → nat_le t (m + 30) ≡ true → (x && nat_le t (m + 30)) ≡ false → nat_le m (t + 30) ≡ false
late_by m t true e h g = let f : nat_le t (m + 30) ≡ false = g in cc
late_by m t false e h g = e

cancels_in_time : (end : End) (t : ℕ) → is_not_long_past end t ≡ true → is_near_end end t ≡ false → cancels_late end t ≡ false
cancels_in_time (At m) t h g = late_by m t (nat_le m (t + 30)) refl h g
cancels_in_time Ufn t h g = refl

ending_parts : (row : Row) (a : Action) (t : ℕ) (more : List (Bool × Breach)) → row.ended ≡ false → NoneHolds more → first_of (on_ending (life_of row) (line_on a t row) t more) ≡ None
ending_parts row a t more going rest =
    let m = row.period.begin in
    let p = prints_by m t (nat_le m t) refl in
    none_first (on_ending (life_of row) (line_on a t row) t more)
    (going, (not_from_true _ p.0, (or_from (moves_begin (printed_begin m t) m) _ p.1 (not_from_true _ (same_end-itself row.period.end)), rest)))

pub ending_sound : (rows : List Row) (t : ℕ) (row : Row) (x y : Bool) → row_at rows row.event row.zone ≡ Some row → keeps_open t row ≡ true → (x ≡ true → ends_after row.period.end t ≡ true) → is_near_end row.period.end t ≡ y →
    IsSound rows t (line_on (cond x Upg (cond y Exp Can)) t row)
unfolding breach_of_line
ending_sound rows t row true y h stands before near b u =
    let going = not-true row.ended (and_parts (not row.ended) _ stands).0 in
    rw h (ending_parts row Upg t ((not (ends_after row.period.end t), TooLate) ∷ (not b, NoHigher) ∷ []) going (not_from_true _ (before refl), (not_from_true _ (u refl), tt)))
ending_sound rows t row false true h stands before near b u =
    let going = not-true row.ended (and_parts (not row.ended) _ stands).0 in
    let p = expires_in_time row.period.end t near in
    rw h (ending_parts row Exp t ((expires_early row.period.end t, TooEarly) ∷ (expires_late row.period.end t, TooLate) ∷ []) going (p.0, (p.1, tt)))
ending_sound rows t row false false h stands before near b u =
    let q = and_parts (not row.ended) _ stands in
    let going = not-true row.ended q.0 in
    rw h (ending_parts row Can t ((cancels_late row.period.end t, TooLate) ∷ []) going (cancels_in_time row.period.end t q.1 near, tt))

pub finish_sound : (rows : List Row) (t : ℕ) (all : List Placed) (row : Row) → row_at rows row.event row.zone ≡ Some row → keeps_open t row ≡ true → IsSound rows t (line_on (finishing_action rows t all row) t row)
finish_sound rows t all row h stands =
    ending_sound rows t row (ends_after row.period.end t && is_overlaid rows t all row) (is_near_end row.period.end t) h stands (λ e. (and_parts (ends_after row.period.end t) _ e).0) refl

-- ROU touches no life

routine_by : (o : Option Row) (e : Event) (z : Place) (t : ℕ) (around : Around) → breach_of_line (option_map life_of o) (routine_line e z) t around ≡ None
unfolding breach_of_line
routine_by None e z t around = refl
routine_by (Some row) e z t around = refl

pub routine_sound : (rows : List Row) (t : ℕ) (e : Event) (z : Place) → IsSound rows t (routine_line e z)
routine_sound rows t e z b u = routine_by (row_at rows e z) e z t (around_but_higher rows t (routine_line e z) b)
