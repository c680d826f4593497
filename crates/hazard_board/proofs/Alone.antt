-- A lawful line leaves its row whatever is said to stand around it.
use Rattle.std.proofs.Common.{◌≡◌, ◌||◌, not, ℕ, List, [], ◌∷◌, Bool, true, false, Option, Some, None, refl, nat_lt, unwrap_or}
use Rattle.std.specs.Option.{is_none}
use Rattle.hazard_types.specs.declared.codes.Action.{Action}
use Rattle.hazard_types.specs.declared.codes.Action.TheVariants.{New, Exa, Exb, Upg, Rou}
use Rattle.hazard_types.specs.declared.line.Line.{Line}
use Rattle.hazard_types.specs.declared.line.Row.{Row}
use Rattle.event_life.specs.declared.life.Around.{Around}
use Rattle.event_life.specs.declared.life.Breach.{Breach}
use Rattle.event_life.specs.declared.life.Breach.TheVariants.{Reopened, NotOpening, NumberHeld, ZeroBegin, TooEarly, NoLength, PeriodMoved, PeriodSame, NotLive, TooLate, NoHigher}
use Rattle.event_life.specs.declared.life.Life.{Life}
use Rattle.event_life.specs.Lives.{opens}
use Rattle.event_life.specs.Periods.{ends_after, same_end}
use Rattle.event_life.specs.Products.{is_routine, life_at, row_after}
use Rattle.event_life.specs.Table.{first_of, on_life, on_nothing, prints_begin_as_due, moves_begin, breach_of_line}
use Rattle.hazard_board.specs.Taken.{wanted, row_left}

-- the tests of a list without a breach
pub none_first : (b : Bool) (x : Breach) (more : List (Bool × Breach)) → first_of ((b, x) ∷ more) ≡ None → (b ≡ false) × (first_of more ≡ None)
none_first true x more h = cc
none_first false x more h = (refl, h)

pub none_both : (b : Bool) (x : Breach) (more : List (Bool × Breach)) → b ≡ false → first_of more ≡ None → first_of ((b, x) ∷ more) ≡ None
none_both true x more e h = cc
none_both false x more e h = h

-- the third of four, and the last
without_last : (a b c d : Bool) (w x y z : Breach) → first_of ((a, w) ∷ (b, x) ∷ (c, y) ∷ (d, z) ∷ []) ≡ None → first_of ((a, w) ∷ (b, x) ∷ (c, y) ∷ (false, z) ∷ []) ≡ None
without_last a b c d w x y z e =
    let p = none_first a w ((b, x) ∷ (c, y) ∷ (d, z) ∷ []) e in
    let q = none_first b x ((c, y) ∷ (d, z) ∷ []) p.1 in
    let r = none_first c y ((d, z) ∷ []) q.1 in
    rw (p.0, q.0, r.0) refl

joined : (s g a b c d : Bool) (v w x y z : Breach) → first_of ((s, v) ∷ (g, w) ∷ (a, x) ∷ (b, y) ∷ (c, z) ∷ []) ≡ None → d ≡ false → first_of ((s, v) ∷ (false, w) ∷ (a, x) ∷ (b, y) ∷ (d, z) ∷ []) ≡ None
joined s g a b c d v w x y z e is =
    let p = none_first s v ((g, w) ∷ (a, x) ∷ (b, y) ∷ (c, z) ∷ []) e in
    let q = none_first g w ((a, x) ∷ (b, y) ∷ (c, z) ∷ []) p.1 in
    let r = none_first a x ((b, y) ∷ (c, z) ∷ []) q.1 in
    let k = none_first b y ((c, z) ∷ []) r.1 in
    rw (p.0, r.0, k.0, is) refl

opened_new : (s a b c d e : Bool) (v w x y z : Breach) → first_of ((s || a, v) ∷ (b, w) ∷ (c, x) ∷ (d, y) ∷ (e, z) ∷ []) ≡ None → first_of ((s || false, v) ∷ (false, w) ∷ (c, x) ∷ (d, y) ∷ (e, z) ∷ []) ≡ None
opened_new true a b c d e v w x y z h = cc
opened_new false a b c d e v w x y z h = (none_first b w ((c, x) ∷ (d, y) ∷ (e, z) ∷ []) (none_first a v ((b, w) ∷ (c, x) ∷ (d, y) ∷ (e, z) ∷ []) h).1).1

pub upgraded : (a b c d e : Bool) (v w x y z : Breach) → first_of ((a, v) ∷ (b, w) ∷ (c, x) ∷ (d, y) ∷ (e, z) ∷ []) ≡ None → first_of ((a, v) ∷ (b, w) ∷ (c, x) ∷ (d, y) ∷ (false, z) ∷ []) ≡ None
upgraded a b c d e v w x y z h =
    let p = none_first a v ((b, w) ∷ (c, x) ∷ (d, y) ∷ (e, z) ∷ []) h in
    none_both a v ((b, w) ∷ (c, x) ∷ (d, y) ∷ (false, z) ∷ []) p.0 (without_last b c d e w x y z p.1)

alone_on_life : (a : Action) (life : Life) (line : Line) (t : ℕ) (around : Around) → first_of (on_life a life line t around) ≡ None → first_of (on_life a life line t (wanted a)) ≡ None
alone_on_life New life line t around h = opened_new (not life.ended) around.opened around.held (is_none line.begin) (nat_lt (unwrap_or line.begin t) t) (not (ends_after line.end (unwrap_or line.begin t))) Reopened NumberHeld ZeroBegin TooEarly NoLength h
alone_on_life Exa life line t around h = joined (not life.ended) (not around.going) (nat_lt (unwrap_or line.begin t) t) (not (ends_after line.end (unwrap_or line.begin t))) (not around.same) false Reopened NotOpening TooEarly NoLength PeriodMoved h refl
alone_on_life Exb life line t around h = joined (not life.ended) (not around.going) (nat_lt (unwrap_or line.begin t) t) (not (ends_after line.end (unwrap_or line.begin t))) around.same false Reopened NotOpening TooEarly NoLength PeriodSame h refl
alone_on_life Upg life line t around h = upgraded life.ended (not (prints_begin_as_due line.begin life.period.begin t)) (moves_begin line.begin life.period.begin || not (same_end line.end life.period.end)) (not (ends_after life.period.end t)) (not around.higher) NotLive ZeroBegin PeriodMoved TooLate NoHigher h
alone_on_life _ life line t around h = h

alone_on_nothing : (a : Action) (line : Line) (t : ℕ) (around : Around) → first_of (on_nothing a line t around) ≡ None → first_of (on_nothing a line t (wanted a)) ≡ None
alone_on_nothing New line t around h = opened_new false around.opened around.held (is_none line.begin) (nat_lt (unwrap_or line.begin t) t) (not (ends_after line.end (unwrap_or line.begin t))) Reopened NumberHeld ZeroBegin TooEarly NoLength h
alone_on_nothing Exa line t around h = joined false (not around.going) (nat_lt (unwrap_or line.begin t) t) (not (ends_after line.end (unwrap_or line.begin t))) (not around.same) false Reopened NotOpening TooEarly NoLength PeriodMoved h refl
alone_on_nothing Exb line t around h = joined false (not around.going) (nat_lt (unwrap_or line.begin t) t) (not (ends_after line.end (unwrap_or line.begin t))) around.same false Reopened NotOpening TooEarly NoLength PeriodSame h refl
alone_on_nothing _ line t around h = h

-- what a line does alone
alone : (before : Option Life) (line : Line) (t : ℕ) (around : Around) → breach_of_line before line t around ≡ None → breach_of_line before line t (wanted line.action) ≡ None
unfolding breach_of_line
alone None line t around h = alone_on_nothing line.action line t around h
alone (Some life) line t around h = alone_on_life line.action life line t around h

-- a lawful line leaves the row after it
pub lawful_left : (rows : List Row) (t : ℕ) (line : Line) (around : Around) → is_routine line.action ≡ false → breach_of_line (life_at rows line) line t around ≡ None → row_left rows t line ≡ Some (row_after rows t line)
lawful_left rows t line around own h = rw (own, alone (life_at rows line) line t around h) refl

unstarted : (a : Action) (line : Line) (t : ℕ) (around : Around) → is_routine a ≡ false → opens a ≡ false → first_of (on_nothing a line t around) ≡ None → ⊥
unstarted New line t around own never h = cc
unstarted Exa line t around own never h = cc
unstarted Exb line t around own never h = cc
unstarted Rou line t around own never h = cc
unstarted _ line t around own never h = cc

-- a lawful line that opens nothing meets a life
pub meets_life : (before : Option Life) (line : Line) (t : ℕ) (around : Around) → is_routine line.action ≡ false → opens line.action ≡ false → breach_of_line before line t around ≡ None → before ≡ None → ⊥
unfolding breach_of_line
meets_life None line t around own opens_none h e = unstarted line.action line t around own opens_none h
meets_life (Some life) line t around own opens_none h e = cc
