-- Each line of the table against its bounds.
use Rattle.std.proofs.Common.{◌≡◌, ◌↔◌, ◌&&◌, ◌||◌, not, ℕ, ◌+◌, ◌≤◌, ◌<◌, List, [], ◌∷◌, Bool, true, false, Option, Some, None, Err, refl, sym, ap, ◌∙◌, cond, unwrap_or, arith, IsOk, IfOk, IfSome, IsSomeAnd, nat_lt, nat_le}
use Rattle.std.proofs.lemmas.Bool.{and_parts, or_parts, and_from, not-false, not_from_true, ltb-true, ltb-false, leb-true, leb-false, eqb-true, lt-ltb, le-ltb, le-leb, lt-leb, eq-eqb, false_from_ne_true, true_from_ne_false, both_ways}
use Rattle.std.proofs.lemmas.Bool.Decides.{Decides-ltb, Decides-and, Decides-or, Decides-eqb}
use Rattle.std.specs.Bool.{Decides}
use Rattle.std.specs.Option.{is_none, MatchOption}
use Rattle.std.specs.List.{AllByRecursion}
use Rattle.hazard_types.specs.declared.codes.Action.{Action}
use Rattle.hazard_types.specs.declared.codes.Action.TheVariants.{New, Con, Exa, Ext, Exb, Upg, Can, Exp, Cor, Rou}
use Rattle.hazard_types.specs.declared.period.End.{End}
use Rattle.hazard_types.specs.declared.period.End.TheVariants.{At, Ufn}
use Rattle.hazard_types.specs.declared.period.Period.{Period}
use Rattle.hazard_types.specs.declared.line.Line.{Line}
use Rattle.event_life.specs.declared.life.Life.{Life}
use Rattle.event_life.specs.declared.life.Around.{Around}
use Rattle.event_life.specs.declared.life.Breach.{Breach}
use Rattle.event_life.specs.declared.life.Breach.TheVariants.{TooEarly, PeriodMoved, PeriodSame, TooLate, NoHigher, Twice}
use Rattle.event_life.specs.Periods.{ends_after, same_end, same_at}
use Rattle.event_life.specs.Lives.{opens, goes_on, ends}
use Rattle.hazard_types.specs.declared.line.Flood.{Flood}
use Rattle.event_life.specs.Table.{flood_after, first_of, on_life, on_nothing, on_new, on_joining, on_continuing, on_ending, prints_begin_as_due, moves_begin, prints_begun, prints_to_come, expires_early, expires_late, cancels_late, keeps_period, continued_period, breach_of_line, life_after_lawful_line, life_after_line, unless_breach, step}
use Rattle.event_life.specs.Bounds.{IsBefore, IsLongBefore, IsNear, AreSame, HasEnded, OpensEvent, JoinsEvent, GoesOnFrom, Stays, EndsAsPrinted, begin_left, IsOpened, IsCarriedOn, IsEnded}
use Rattle.event_life.specs.Products.{is_routine}
use Rattle.event_life.proofs.LivesLemmas.{on_life-ended}

-- none of the tests holds
abbrev NoneHolds : List (Bool × Breach) → Type 0
NoneHolds [] = Unit {0}
NoneHolds (row ∷ rows) = (row.0 ≡ false) × NoneHolds rows

first_of-none : (rows : List (Bool × Breach)) → first_of rows ≡ None → NoneHolds rows
first_of-none [] h = tt
first_of-none (row ∷ rows) h =
    let step : (b : Bool) → row.0 ≡ b → cond b (Some row.1) (first_of rows) ≡ None → (row.0 ≡ false) × NoneHolds rows =
    λ b. elim b as (λ b. row.0 ≡ b → cond b (Some row.1) (first_of rows) ≡ None → (row.0 ≡ false) × NoneHolds rows) [
      | true ↦ λ e g. cc
      | false ↦ λ e g. (e, first_of-none rows g)
    ] in
    step row.0 refl h

none-first_of : (rows : List (Bool × Breach)) → NoneHolds rows → first_of rows ≡ None
none-first_of [] h = refl
none-first_of (row ∷ rows) h = rw h.0 (none-first_of rows h.1)

ok_none : {X : Type 0} (o : Option Breach) (x : X) → IsOk (unless_breach o x) → o ≡ None
ok_none None x h = refl
ok_none (Some breach) x h = cc

pub none_ok : {X : Type 0} (o : Option Breach) (x : X) → o ≡ None → IsOk (unless_breach o x)
none_ok None x h = refl
none_ok (Some breach) x h = cc

-- a line is lawful exactly where none of its action's tests holds
lawful_on_life : (a : Action) (life : Life) (line : Line) (t : ℕ) (around : Around) → line.action ≡ a →
    (IsOk (step (Some life) line t around) → NoneHolds (on_life a life line t around)) × (NoneHolds (on_life a life line t around) → IsOk (step (Some life) line t around))
unfolding breach_of_line
lawful_on_life a life line t around e =
    let same : first_of (on_life line.action life line t around) ≡ first_of (on_life a life line t around) = ap (λ (x : Action). first_of (on_life x life line t around)) e in
    (λ h. first_of-none _ (sym same ∙ ok_none _ _ h), λ h. none_ok _ _ (same ∙ none-first_of _ h))

lawful_on_nothing : (a : Action) (line : Line) (t : ℕ) (around : Around) → line.action ≡ a →
    (IsOk (step None line t around) → NoneHolds (on_nothing a line t around)) × (NoneHolds (on_nothing a line t around) → IsOk (step None line t around))
unfolding breach_of_line
lawful_on_nothing a line t around e =
    let same : first_of (on_nothing line.action line t around) ≡ first_of (on_nothing a line t around) = ap (λ (x : Action). first_of (on_nothing x line t around)) e in
    (λ h. first_of-none _ (sym same ∙ ok_none _ _ h), λ h. none_ok _ _ (same ∙ none-first_of _ h))

-- tests against bounds

ends_after-Decides : (end : End) (t : ℕ) → Decides (ends_after end t) (IsBefore t end)
ends_after-Decides (At m) t = Decides-ltb t m
ends_after-Decides Ufn t = (λ _. tt, λ _. refl)

before_from : (end : End) (t : ℕ) → not (ends_after end t) ≡ false → IsBefore t end
before_from end t h = (ends_after-Decides end t).0 (not-false _ h)

from_before : (end : End) (t : ℕ) → IsBefore t end → not (ends_after end t) ≡ false
from_before end t h = not_from_true _ ((ends_after-Decides end t).1 h)

same_end-Decides : (a b : End) → Decides (same_end a b) (a ≡ b)
same_end-Decides (At m) (At n) = (λ h. ap At (eqb-true m n h), λ e. eq-eqb m n (let f = e in cc))
same_end-Decides Ufn Ufn = (λ _. refl, λ _. refl)
same_end-Decides (At m) Ufn = (λ h. cc, λ e. cc)
same_end-Decides Ufn (At n) = (λ h. cc, λ e. cc)

leb-Decides : (a b : ℕ) → Decides (nat_le a b) (a ≤ b)
leb-Decides a b = (leb-true a b, le-leb a b)

same_at-Decides : (t : ℕ) (p q : Period) → Decides (same_at t p q) (AreSame t p q)
same_at-Decides t p q =
    Decides-and _ _ (same_end-Decides p.end q.end)
    (Decides-or _ _ (Decides-eqb p.begin q.begin) (Decides-and _ _ (leb-Decides p.begin t) (leb-Decides q.begin t)))

-- NEW

begin_from : (begin : Option ℕ) (end : End) (t : ℕ) → is_none begin ≡ false → nat_lt (unwrap_or begin t) t ≡ false → not (ends_after end (unwrap_or begin t)) ≡ false → IsSomeAnd begin (λ b. (t ≤ b) × IsBefore b end)
begin_from None end t p q r = cc
begin_from (Some b) end t p q r = (ltb-false b t q, before_from end b r)

from_begin : (begin : Option ℕ) (end : End) (t : ℕ) → IsSomeAnd begin (λ b. (t ≤ b) × IsBefore b end) → (is_none begin ≡ false) × (nat_lt (unwrap_or begin t) t ≡ false) × (not (ends_after end (unwrap_or begin t)) ≡ false)
from_begin None end t h = absurd h
from_begin (Some b) end t h = (refl, le-ltb b t h.0, from_before end b h.1)

opens_from : (stands : Bool) (line : Line) (t : ℕ) (around : Around) → NoneHolds (on_new stands line t around) → (stands ≡ false) × OpensEvent line t around
opens_from stands line t around h =
    let own = or_parts stands around.opened h.0 in
    (own.0, record { no_rows = own.1; number_free = h.1.0; begin = begin_from line.begin line.end t h.1.1.0 h.1.1.1.0 h.1.1.1.1.0 })

from_opens : (stands : Bool) (line : Line) (t : ℕ) (around : Around) → stands ≡ false → OpensEvent line t around → NoneHolds (on_new stands line t around)
from_opens stands line t around none r =
    let b = from_begin line.begin line.end t r.begin in
    let own : (stands || around.opened) ≡ false = rw (none, r.no_rows) refl in
    (own, (r.number_free, (b.0, (b.1, (b.2, tt)))))

pub new_exactly : (before : Option Life) (line : Line) (t : ℕ) (around : Around) → line.action ≡ New → IsOk (step before line t around) ↔ (HasEnded before × OpensEvent line t around)
new_exactly None line t around a =
    let rows = lawful_on_nothing New line t around a in
    (λ h. (tt, (opens_from false line t around (rows.0 h)).1), λ r. rows.1 (from_opens false line t around refl r.1))
new_exactly (Some life) line t around a =
    let rows = lawful_on_life New life line t around a in (
      λ h. let p = opens_from (not life.ended) line t around (rows.0 h) in (not-false _ p.0, p.1),
      λ r. rows.1 (from_opens (not life.ended) line t around (not_from_true _ r.0) r.1),
    )

-- EXA and EXB

joins_from : (stands : Bool) (line : Line) (t : ℕ) (around : Around) (last : Bool × Breach) → NoneHolds (on_joining stands line t around last) → (stands ≡ false) × JoinsEvent line t around × (last.0 ≡ false)
joins_from stands line t around last h =
    (h.0, record { event_open = not-false _ h.1.0; begin = ltb-false (unwrap_or line.begin t) t h.1.1.0; length = before_from line.end (unwrap_or line.begin t) h.1.1.1.0 }, h.1.1.1.1.0)

from_joins : (stands : Bool) (line : Line) (t : ℕ) (around : Around) (last : Bool × Breach) → stands ≡ false → JoinsEvent line t around → last.0 ≡ false → NoneHolds (on_joining stands line t around last)
from_joins stands line t around last none r l =
    (none, (not_from_true _ r.event_open, (le-ltb (unwrap_or line.begin t) t r.begin, (from_before line.end (unwrap_or line.begin t) r.length, (l, tt)))))

pub exa_exactly : (before : Option Life) (line : Line) (t : ℕ) (around : Around) → line.action ≡ Exa → IsOk (step before line t around) ↔ (HasEnded before × JoinsEvent line t around × (around.same ≡ true))
exa_exactly None line t around a =
    let rows = lawful_on_nothing Exa line t around a in (
      λ h. let j = joins_from false line t around (not around.same, PeriodMoved) (rows.0 h) in (tt, j.1, not-false _ j.2),
      λ r. rows.1 (from_joins false line t around (not around.same, PeriodMoved) refl r.1 (not_from_true _ r.2)),
    )
exa_exactly (Some life) line t around a =
    let rows = lawful_on_life Exa life line t around a in (
      λ h. let j = joins_from (not life.ended) line t around (not around.same, PeriodMoved) (rows.0 h) in (not-false _ j.0, j.1, not-false _ j.2),
      λ r. rows.1 (from_joins (not life.ended) line t around (not around.same, PeriodMoved) (not_from_true _ r.0) r.1 (not_from_true _ r.2)),
    )

pub exb_exactly : (before : Option Life) (line : Line) (t : ℕ) (around : Around) → line.action ≡ Exb → IsOk (step before line t around) ↔ (HasEnded before × JoinsEvent line t around × (around.same ≡ false))
exb_exactly None line t around a =
    let rows = lawful_on_nothing Exb line t around a in (
      λ h. let j = joins_from false line t around (around.same, PeriodSame) (rows.0 h) in (tt, j.1, j.2),
      λ r. rows.1 (from_joins false line t around (around.same, PeriodSame) refl r.1 r.2),
    )
exb_exactly (Some life) line t around a =
    let rows = lawful_on_life Exb life line t around a in (
      λ h. let j = joins_from (not life.ended) line t around (around.same, PeriodSame) (rows.0 h) in (not-false _ j.0, j.1, j.2),
      λ r. rows.1 (from_joins (not life.ended) line t around (around.same, PeriodSame) (not_from_true _ r.0) r.1 r.2),
    )

-- CON, COR and EXT

printed_from : (begin : Option ℕ) (own t : ℕ) → prints_begun begin t ≡ false → (prints_to_come begin t && nat_le own t) ≡ false → IfSome begin (λ b. (t < b) × (t < own))
printed_from None own t p q = tt
printed_from (Some b) own t p q =
    let later = leb-false b t p in
    let begun : nat_le own t ≡ false = rw (lt-ltb t b later) at q in
    (later, leb-false own t begun)

from_printed : (begin : Option ℕ) (own t : ℕ) → IfSome begin (λ b. (t < b) × (t < own)) → (prints_begun begin t ≡ false) × ((prints_to_come begin t && nat_le own t) ≡ false)
from_printed None own t h = (refl, refl)
from_printed (Some b) own t h = (lt-leb b t h.0, rw (lt-ltb t b h.0, lt-leb own t h.1))

goes_on_from : (life : Life) (line : Line) (t : ℕ) (last : Bool × Breach) → NoneHolds (on_continuing life line t last) → GoesOnFrom life line t × (last.0 ≡ false)
goes_on_from life line t last h =
    let live = or_parts life.ended (not (ends_after life.period.end t)) h.0 in
    let ends = and_parts (ends_after line.end (begin_left life line t)) (ends_after line.end t) (not-false _ h.1.1.1.0) in (
      record {
        going = live.0;
        live = before_from life.period.end t live.1;
        printed = printed_from line.begin life.period.begin t h.1.0 h.1.1.0;
        length = (ends_after-Decides line.end (begin_left life line t)).0 ends.0;
        left = (ends_after-Decides line.end t).0 ends.1;
      },
      h.1.1.1.1.0,
    )

from_goes_on : (life : Life) (line : Line) (t : ℕ) (last : Bool × Breach) → GoesOnFrom life line t → last.0 ≡ false → NoneHolds (on_continuing life line t last)
from_goes_on life line t last r l =
    let live : (life.ended || not (ends_after life.period.end t)) ≡ false = rw (r.going, from_before life.period.end t r.live) in
    let printed = from_printed line.begin life.period.begin t r.printed in
    let ends : not (ends_after line.end (begin_left life line t) && ends_after line.end t) ≡ false =
    not_from_true _ (and_from _ _ ((ends_after-Decides line.end (begin_left life line t)).1 r.length) ((ends_after-Decides line.end t).1 r.left)) in
    (live, (printed.0, (printed.1, (ends, (l, tt)))))

keeps_period-Decides : (life : Life) (line : Line) (t : ℕ) → Decides (keeps_period life line t) (Stays life line t)
keeps_period-Decides life line t = same_at-Decides t life.period (continued_period life line t)

-- CON and COR keep the period
kept_exactly : (life : Life) (line : Line) (t : ℕ) {P : Type 0} → (P ↔ NoneHolds (on_continuing life line t (not (keeps_period life line t), PeriodMoved))) → P ↔ (GoesOnFrom life line t × Stays life line t)
kept_exactly life line t rows = (
  λ h. let g = goes_on_from life line t (not (keeps_period life line t), PeriodMoved) (rows.0 h) in (g.0, (keeps_period-Decides life line t).0 (not-false _ g.1)),
  λ r. rows.1 (from_goes_on life line t (not (keeps_period life line t), PeriodMoved) r.0 (not_from_true _ ((keeps_period-Decides life line t).1 r.1))),
)

pub con_exactly : (before : Option Life) (line : Line) (t : ℕ) (around : Around) → line.action ≡ Con → IsOk (step before line t around) ↔ IsSomeAnd before (λ life. GoesOnFrom life line t × Stays life line t)
con_exactly None line t around a = (λ h. let f = ((lawful_on_nothing Con line t around a).0 h).0 in cc, λ r. absurd r)
con_exactly (Some life) line t around a = kept_exactly life line t (lawful_on_life Con life line t around a)

pub cor_exactly : (before : Option Life) (line : Line) (t : ℕ) (around : Around) → line.action ≡ Cor → IsOk (step before line t around) ↔ IsSomeAnd before (λ life. GoesOnFrom life line t × Stays life line t)
cor_exactly None line t around a = (λ h. let f = ((lawful_on_nothing Cor line t around a).0 h).0 in cc, λ r. absurd r)
cor_exactly (Some life) line t around a = kept_exactly life line t (lawful_on_life Cor life line t around a)

pub ext_exactly : (before : Option Life) (line : Line) (t : ℕ) (around : Around) → line.action ≡ Ext → IsOk (step before line t around) ↔ IsSomeAnd before (λ life. GoesOnFrom life line t × (¬ Stays life line t))
ext_exactly None line t around a = (λ h. let f = ((lawful_on_nothing Ext line t around a).0 h).0 in cc, λ r. absurd r)
ext_exactly (Some life) line t around a =
    let rows = lawful_on_life Ext life line t around a in (
      λ h. let g = goes_on_from life line t (keeps_period life line t, PeriodSame) (rows.0 h) in (g.0, λ s. both_ways _ g.1 ((keeps_period-Decides life line t).1 s)),
      λ r. rows.1 (from_goes_on life line t (keeps_period life line t, PeriodSame) r.0 (false_from_ne_true _ (λ s. r.1 ((keeps_period-Decides life line t).0 s)))),
    )

-- CAN, EXP and UPG

prints_from : (begin : Option ℕ) (own t : ℕ) → prints_begin_as_due begin own t ≡ true → moves_begin begin own ≡ false → (own ≤ t → begin ≡ None) × (t < own → begin ≡ Some own)
prints_from None own t p q = (λ _. refl, λ h. absurd (omega (arith, leb-true own t p)))
prints_from (Some b) own t p q = (λ h. absurd (omega (arith, ltb-true t own p)), λ h. ap Some (eqb-true b own (not-false _ q)))

from_prints : (begin : Option ℕ) (own t : ℕ) → (own ≤ t → begin ≡ None) → (t < own → begin ≡ Some own) → (prints_begin_as_due begin own t ≡ true) × (moves_begin begin own ≡ false)
from_prints None own t p q = (true_from_ne_false _ (λ h. let f = q (leb-false own t h) in cc), refl)
from_prints (Some b) own t p q =
    let later : nat_lt t own ≡ true = true_from_ne_false _ (λ h. let f = p (ltb-false t own h) in cc) in
    let same : b ≡ own = let e = q (ltb-true t own later) in cc in
    (later, not_from_true _ (eq-eqb b own same))

ends_from : (life : Life) (line : Line) (t : ℕ) (more : List (Bool × Breach)) → NoneHolds (on_ending life line t more) → EndsAsPrinted life line t × NoneHolds more
ends_from life line t more h =
    let moved = or_parts (moves_begin line.begin life.period.begin) (not (same_end line.end life.period.end)) h.1.1.0 in
    let prints = prints_from line.begin life.period.begin t (not-false _ h.1.0) moved.0 in
    (record { going = h.0; begun = prints.0; later = prints.1; end = (same_end-Decides line.end life.period.end).0 (not-false _ moved.1) }, h.1.1.1)

from_ends : (life : Life) (line : Line) (t : ℕ) (more : List (Bool × Breach)) → EndsAsPrinted life line t → NoneHolds more → NoneHolds (on_ending life line t more)
from_ends life line t more r l =
    let prints = from_prints line.begin life.period.begin t r.begun r.later in
    let same = (same_end-Decides line.end life.period.end).1 r.end in
    (r.going, (not_from_true _ prints.0, (rw (prints.1, same), l)))

cancels-Decides : (end : End) (t : ℕ) → (cancels_late end t ≡ false) ↔ IsLongBefore t end
cancels-Decides (At m) t = (leb-false m (t + 30), lt-leb m (t + 30))
cancels-Decides Ufn t = (λ _. tt, λ _. refl)

expires-Decides : (end : End) (t : ℕ) → ((expires_early end t ≡ false) × (expires_late end t ≡ false)) ↔ IsNear t end
expires-Decides (At m) t = (λ h. (ltb-false (t + 30) m h.0, ltb-false (m + 30) t h.1), λ n. (le-ltb (t + 30) m n.0, le-ltb (m + 30) t n.1))
expires-Decides Ufn t = (λ h. let f = h.0 in cc, λ n. absurd n)

pub can_exactly : (before : Option Life) (line : Line) (t : ℕ) (around : Around) → line.action ≡ Can → IsOk (step before line t around) ↔ IsSomeAnd before (λ life. EndsAsPrinted life line t × IsLongBefore t life.period.end)
can_exactly None line t around a = (λ h. let f = ((lawful_on_nothing Can line t around a).0 h).0 in cc, λ r. absurd r)
can_exactly (Some life) line t around a =
    let rows = lawful_on_life Can life line t around a in (
      λ h. let g = ends_from life line t ((cancels_late life.period.end t, TooLate) ∷ []) (rows.0 h) in (g.0, (cancels-Decides life.period.end t).0 g.1.0),
      λ r. rows.1 (from_ends life line t ((cancels_late life.period.end t, TooLate) ∷ []) r.0 ((cancels-Decides life.period.end t).1 r.1, tt)),
    )

pub exp_exactly : (before : Option Life) (line : Line) (t : ℕ) (around : Around) → line.action ≡ Exp → IsOk (step before line t around) ↔ IsSomeAnd before (λ life. EndsAsPrinted life line t × IsNear t life.period.end)
exp_exactly None line t around a = (λ h. let f = ((lawful_on_nothing Exp line t around a).0 h).0 in cc, λ r. absurd r)
exp_exactly (Some life) line t around a =
    let rows = lawful_on_life Exp life line t around a in (
      λ h. let g = ends_from life line t ((expires_early life.period.end t, TooEarly) ∷ (expires_late life.period.end t, TooLate) ∷ []) (rows.0 h) in (g.0, (expires-Decides life.period.end t).0 (g.1.0, g.1.1.0)),
      λ r. let n = (expires-Decides life.period.end t).1 r.1 in rows.1 (from_ends life line t ((expires_early life.period.end t, TooEarly) ∷ (expires_late life.period.end t, TooLate) ∷ []) r.0 (n.0, (n.1, tt))),
    )

pub upg_exactly : (before : Option Life) (line : Line) (t : ℕ) (around : Around) → line.action ≡ Upg → IsOk (step before line t around) ↔ IsSomeAnd before (λ life. EndsAsPrinted life line t × IsBefore t life.period.end × (around.higher ≡ true))
upg_exactly None line t around a = (λ h. let f = ((lawful_on_nothing Upg line t around a).0 h).0 in cc, λ r. absurd r)
upg_exactly (Some life) line t around a =
    let rows = lawful_on_life Upg life line t around a in (
      λ h. let g = ends_from life line t ((not (ends_after life.period.end t), TooLate) ∷ (not around.higher, NoHigher) ∷ []) (rows.0 h) in (g.0, before_from life.period.end t g.1.0, not-false _ g.1.1.0),
      λ r. rows.1 (from_ends life line t ((not (ends_after life.period.end t), TooLate) ∷ (not around.higher, NoHigher) ∷ []) r.0 (from_before life.period.end t r.1, (not_from_true _ r.2, tt))),
    )

-- what a lawful line leaves

ok_holds : {X : Type 0} (P : X → Type 0) (o : Option Breach) (x : X) → P x → IfOk (unless_breach o x) P
ok_holds P None x h = h
ok_holds P (Some breach) x h = tt

opened_life : (a : Action) (life : Life) (line : Line) (t : ℕ) → opens a ≡ true → IsOpened line t (life_after_line a life line t)
opened_life New life line t h = record { begin = refl; end = refl; flood = refl; going = refl }
opened_life Exa life line t h = record { begin = refl; end = refl; flood = refl; going = refl }
opened_life Exb life line t h = record { begin = refl; end = refl; flood = refl; going = refl }
opened_life _ life line t h = cc

pub opens_leaves : (before : Option Life) (line : Line) (t : ℕ) (around : Around) → opens line.action ≡ true → IfOk (step before line t around) (IsOpened line t)
unfolding life_after_lawful_line
opens_leaves None line t around h = ok_holds (IsOpened line t) (breach_of_line None line t around) _ (record { begin = refl; end = refl; flood = refl; going = refl })
opens_leaves (Some life) line t around h = ok_holds (IsOpened line t) (breach_of_line (Some life) line t around) _ (opened_life line.action life line t h)

takes : (life : Life) (line : Line) (own new : Option Flood) → MatchOption new (flood_after own new ≡ own) (λ flood. flood_after own new ≡ Some flood)
takes life line None None = refl
takes life line (Some old) None = refl
takes life line None (Some flood) = refl
takes life line (Some old) (Some flood) = refl

carried_on : (a : Action) (life : Life) (line : Line) (t : ℕ) → goes_on a ≡ true → IsCarriedOn life line t (life_after_line a life line t)
carried_on Con life line t h = record { begin = refl; end = refl; flood = takes life line life.flood line.flood; going = refl }
carried_on Cor life line t h = record { begin = refl; end = refl; flood = takes life line life.flood line.flood; going = refl }
carried_on Ext life line t h = record { begin = refl; end = refl; flood = takes life line life.flood line.flood; going = refl }
carried_on _ life line t h = cc

pub goes_on_leaves : (life : Life) (line : Line) (t : ℕ) (around : Around) → goes_on line.action ≡ true → IfOk (step (Some life) line t around) (IsCarriedOn life line t)
unfolding life_after_lawful_line
goes_on_leaves life line t around h = ok_holds (IsCarriedOn life line t) (breach_of_line (Some life) line t around) _ (carried_on line.action life line t h)

ended_life : (a : Action) (life : Life) (line : Line) (t : ℕ) → ends a ≡ true → IsEnded life line (life_after_line a life line t)
ended_life Can life line t h = record { period = refl; flood = takes life line life.flood line.flood; ended = refl }
ended_life Exp life line t h = record { period = refl; flood = takes life line life.flood line.flood; ended = refl }
ended_life Upg life line t h = record { period = refl; flood = takes life line life.flood line.flood; ended = refl }
ended_life _ life line t h = cc

pub ends_leaves : (life : Life) (line : Line) (t : ℕ) (around : Around) → ends line.action ≡ true → IfOk (step (Some life) line t around) (IsEnded life line)
unfolding life_after_lawful_line
ends_leaves life line t around h = ok_holds (IsEnded life line) (breach_of_line (Some life) line t around) _ (ended_life line.action life line t h)

-- a life that a line has ended: only lines that open are lawful, and they are judged, and leave the life, as where there is none

pub ended_opens : (life : Life) (line : Line) (t : ℕ) (around : Around) → is_routine line.action ≡ false → life.ended ≡ true → IsOk (step (Some life) line t around) → opens line.action ≡ true
unfolding breach_of_line
ended_opens life line t around r e h = on_life-ended line.action life line t around r e (ok_none _ _ h)

anew_tests : (a : Action) (life : Life) (line : Line) (t : ℕ) (around : Around) → opens a ≡ true → life.ended ≡ true → first_of (on_life a life line t around) ≡ first_of (on_nothing a line t around)
anew_tests New life line t around o e = rw e refl
anew_tests Exa life line t around o e = rw e refl
anew_tests Exb life line t around o e = rw e refl
anew_tests _ life line t around o e = cc

anew_life : (a : Action) (life : Life) (line : Line) (t : ℕ) → opens a ≡ true → life_after_line a life line t ≡ life_after_lawful_line None line t
unfolding life_after_lawful_line
anew_life New life line t o = refl
anew_life Exa life line t o = refl
anew_life Exb life line t o = refl
anew_life _ life line t o = cc

pub ended_anew : (life : Life) (line : Line) (t : ℕ) (around : Around) → opens line.action ≡ true → life.ended ≡ true → step (Some life) line t around ≡ step None line t around
unfolding breach_of_line life_after_lawful_line
ended_anew life line t around o e =
    ap (λ (breach : Option Breach). unless_breach breach (life_after_line line.action life line t)) (anew_tests line.action life line t around o e)
    ∙ ap (λ (after : Life). unless_breach (first_of (on_nothing line.action line t around)) after) (anew_life line.action life line t o)

-- no step is Twice

abbrev is_twice : Breach → Bool
is_twice Twice = true
is_twice _ = false

abbrev NamesOther : List (Bool × Breach) → Type 0
NamesOther rows = AllByRecursion (λ (row : Bool × Breach). is_twice row.1 ≡ false) rows

first_of-other : (rows : List (Bool × Breach)) → NamesOther rows → first_of rows ≡ Some Twice → ⊥
first_of-other [] all h = cc
first_of-other (row ∷ rows) all h =
    let step : (b : Bool) → cond b (Some row.1) (first_of rows) ≡ Some Twice → ⊥ =
    λ b. elim b as (λ b. cond b (Some row.1) (first_of rows) ≡ Some Twice → ⊥) [
      | true ↦ λ g. let same : row.1 ≡ Twice = cc in let f : is_twice row.1 ≡ true = rw same in both_ways _ all.0 f
      | false ↦ λ g. first_of-other rows all.1 g
    ] in
    step row.0 h

on_life-other : (a : Action) (life : Life) (line : Line) (t : ℕ) (around : Around) → NamesOther (on_life a life line t around)
on_life-other New life line t around = (refl, (refl, (refl, (refl, (refl, tt)))))
on_life-other Exa life line t around = (refl, (refl, (refl, (refl, (refl, tt)))))
on_life-other Exb life line t around = (refl, (refl, (refl, (refl, (refl, tt)))))
on_life-other Con life line t around = (refl, (refl, (refl, (refl, (refl, tt)))))
on_life-other Cor life line t around = (refl, (refl, (refl, (refl, (refl, tt)))))
on_life-other Ext life line t around = (refl, (refl, (refl, (refl, (refl, tt)))))
on_life-other Can life line t around = (refl, (refl, (refl, (refl, tt))))
on_life-other Exp life line t around = (refl, (refl, (refl, (refl, (refl, tt)))))
on_life-other Upg life line t around = (refl, (refl, (refl, (refl, (refl, tt)))))
on_life-other Rou life line t around = tt

on_nothing-other : (a : Action) (line : Line) (t : ℕ) (around : Around) → NamesOther (on_nothing a line t around)
on_nothing-other New line t around = (refl, (refl, (refl, (refl, (refl, tt)))))
on_nothing-other Exa line t around = (refl, (refl, (refl, (refl, (refl, tt)))))
on_nothing-other Exb line t around = (refl, (refl, (refl, (refl, (refl, tt)))))
on_nothing-other Rou line t around = tt
on_nothing-other _ line t around = (refl, tt)

unless_breach-err : {X : Type 0} (o : Option Breach) (x : X) (breach : Breach) → unless_breach o x ≡ Err breach → o ≡ Some breach
unless_breach-err None x breach h = cc
unless_breach-err (Some own) x breach h = cc

pub never_twice : (before : Option Life) (line : Line) (t : ℕ) (around : Around) → step before line t around ≡ Err Twice → ⊥
unfolding breach_of_line
never_twice None line t around h = first_of-other _ (on_nothing-other line.action line t around) (unless_breach-err _ _ _ h)
never_twice (Some life) line t around h = first_of-other _ (on_life-other line.action life line t around) (unless_breach-err _ _ _ h)
