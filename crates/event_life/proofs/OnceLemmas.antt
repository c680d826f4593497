-- No event is opened by two products: a lawful NEW line leaves a row of its event, and rows are never taken away.
use Rattle.std.proofs.Common.{◌≡◌, ◌&&◌, ◌||◌, not, ℕ, List, [], ◌∷◌, ◌++◌, Bool, true, false, None, Ordering, Less, Equal, Greater, refl, sym, ap, subst, ◌∙◌, cond}
use Rattle.std.specs.Option.{is_none}
use Rattle.std.specs.List.{AllByRecursion, IsDistinct}
use Rattle.std.specs.List.Sorted.{IsStrictlySortedBy}
use Rattle.std.specs.Ordering.{ordering_reverse}
use Rattle.std.proofs.lemmas.Bool.{and_parts, not-true, false_from_ne_true, both_ways}
use Rattle.std.proofs.lemmas.Cmp.{tied_itself}
use Rattle.hazard_types.specs.Orders.{by_event}
use Rattle.hazard_types.specs.Same.{same_event}
use Rattle.hazard_types.specs.declared.codes.Action.{Action}
use Rattle.hazard_types.specs.declared.codes.Action.TheVariants.{New}
use Rattle.hazard_types.specs.declared.hazard.Event.{Event}
use Rattle.hazard_types.specs.declared.line.Line.{Line}
use Rattle.hazard_types.specs.declared.line.Row.{Row}
use Rattle.hazard_types.proofs.Equality.{event_one, event_itself}
use Rattle.hazard_types.proofs.OrderLaws.{by_event_total}
use Rattle.event_life.specs.Products.{Product, by_key, placed, put, has_rows, life_at, row_after, around_of, is_routine, is_new, is_second, breach_in, judged_from, judged, lawful_of, put_all, lines_of, rows_after, rows_with}
use Rattle.event_life.specs.Lives.{judged_product}
use Rattle.event_life.specs.Openings.{event_placed, add_event, events_opened_by, opened_from, opened_of}
use Rattle.event_life.specs.Table.{breach_of_line, life_after_lawful_line}
use Rattle.event_life.proofs.BoundsLemmas.{none_ok, new_exactly}
use Rattle.event_life.proofs.Keys.{key_exact}
use Rattle.event_life.proofs.LivesLemmas.{none_from_test}
use Rattle.event_life.proofs.Spoken.{breach_in-first, breach_in-second}

-- rows are never taken away

twice_or : (a b : Bool) → (a || b) ≡ (a || (a || b))
twice_or true b = refl
twice_or false b = refl

or_turned : (a b c : Bool) → (b || (a || c)) ≡ (a || (b || c))
or_turned true true c = refl
or_turned true false c = refl
or_turned false true c = refl
or_turned false false c = refl

placed-has : (row r : Row) (rows : List Row) (e : Event) (o : Ordering) → by_key row r ≡ o →
    has_rows (put row rows) e ≡ (same_event row.event e || has_rows rows e) →
    has_rows (placed o row r rows (put row rows)) e ≡ (same_event row.event e || (same_event r.event e || has_rows rows e))
placed-has row r rows e Less h more = refl
placed-has row r rows e Equal h more =
    twice_or (same_event row.event e) (has_rows rows e) ∙ ap (λ (d : Event). same_event row.event e || (same_event d e || has_rows rows e)) (key_exact row r h).1
placed-has row r rows e Greater h more =
    ap (λ (b : Bool). same_event r.event e || b) more ∙ or_turned (same_event row.event e) (same_event r.event e) (has_rows rows e)

has_rows-put : (row : Row) (rows : List Row) (e : Event) → has_rows (put row rows) e ≡ (same_event row.event e || has_rows rows e)
has_rows-put row [] e = refl
has_rows-put row (r ∷ rows) e = placed-has row r rows e (by_key row r) refl (has_rows-put row rows e)

or_last : (a : Bool) → (a || true) ≡ true
or_last true = refl
or_last false = refl

rows_stay : (row : Row) (rows : List Row) (e : Event) → has_rows rows e ≡ true → has_rows (put row rows) e ≡ true
rows_stay row rows e h = has_rows-put row rows e ∙ rw h (or_last (same_event row.event e))

put_all-stay : (rows : List Row) (t : ℕ) (lines : List Line) (after : List Row) (e : Event) → has_rows after e ≡ true → has_rows (put_all rows t lines after) e ≡ true
put_all-stay rows t [] after e h = h
put_all-stay rows t (line ∷ lines) after e h = put_all-stay rows t lines (put (row_after rows t line) after) e (rows_stay (row_after rows t line) after e h)

-- each of these lines leaves a row of its event
put_all-have : (rows : List Row) (t : ℕ) (lines : List Line) (after : List Row) → AllByRecursion (λ (line : Line). has_rows (put_all rows t lines after) line.event ≡ true) lines
put_all-have rows t [] after = tt
put_all-have rows t (line ∷ lines) after =
    let own : has_rows (put (row_after rows t line) after) line.event ≡ true = has_rows-put (row_after rows t line) after line.event ∙ rw (event_itself line.event) refl in
    (put_all-stay rows t lines (put (row_after rows t line) after) line.event own, put_all-have rows t lines (put (row_after rows t line) after))

stay_after : (rows : List Row) (t : ℕ) (lines : List Line) (e : Event) → has_rows rows e ≡ true → has_rows (rows_after rows t lines) e ≡ true
unfolding rows_after
stay_after rows t lines e h = put_all-stay rows t (lawful_of (judged rows t lines)) rows e h

have_after : (rows : List Row) (t : ℕ) (lines : List Line) → AllByRecursion (λ (line : Line). has_rows (rows_after rows t lines) line.event ≡ true) (lawful_of (judged rows t lines))
unfolding rows_after
have_after rows t lines = put_all-have rows t (lawful_of (judged rows t lines)) rows

-- the event of a lawful NEW line has no rows

abbrev IsOfNone : List Row → Line → Type 0
IsOfNone rows line = is_new line.action ≡ true → has_rows rows line.event ≡ false

is_new-New : (a : Action) → is_new a ≡ true → a ≡ New
is_new-New New h = refl
is_new-New _ h = cc

of_none : (rows : List Row) (t : ℕ) (all earlier : List Line) (line : Line) → is_routine line.action ≡ false → breach_in rows t all earlier line ≡ None → IsOfNone rows line
of_none rows t all earlier line own h new =
    let step : (second : Bool) → is_second earlier line ≡ second → has_rows rows line.event ≡ false =
    λ b. elim b as (λ b. is_second earlier line ≡ b → has_rows rows line.event ≡ false) [
      | true ↦ λ q. let f = sym h ∙ breach_in-second rows t all earlier line own q in cc
      | false ↦ λ q.
          let none : breach_of_line (life_at rows line) line t (around_of rows t all line) ≡ None = sym (breach_in-first rows t all earlier line own q) ∙ h in
          let ok = none_ok (breach_of_line (life_at rows line) line t (around_of rows t all line)) (life_after_lawful_line (life_at rows line) line t) none in
          ((new_exactly (life_at rows line) line t (around_of rows t all line) (is_new-New line.action new)).0 ok).1.no_rows
    ] in
    step (is_second earlier line) refl

lawful_step : (rows : List Row) (t : ℕ) (all earlier : List Line) (line : Line) (lines : List Line) (keep : Bool) → (not (is_routine line.action) && is_none (breach_in rows t all earlier line)) ≡ keep →
    AllByRecursion (IsOfNone rows) lines → AllByRecursion (IsOfNone rows) (cond keep (line ∷ lines) lines)
lawful_step rows t all earlier line lines true h more =
    let p = and_parts (not (is_routine line.action)) _ h in
    (of_none rows t all earlier line (not-true (is_routine line.action) p.0) (none_from_test _ p.1), more)
lawful_step rows t all earlier line lines false h more = more

lawful_of-none : (rows : List Row) (t : ℕ) (all earlier lines : List Line) → AllByRecursion (IsOfNone rows) (lawful_of (judged_from rows t all earlier lines))
lawful_of-none rows t all earlier [] = tt
lawful_of-none rows t all earlier (line ∷ lines) =
    lawful_step rows t all earlier line (lawful_of (judged_from rows t all (earlier ++ line ∷ []) lines)) _ refl (lawful_of-none rows t all (earlier ++ line ∷ []) lines)

-- the opened events, in order

placed-every : (P : Event → Type 0) (e d : Event) (events behind : List Event) (o : Ordering) → P e → AllByRecursion P (d ∷ events) → AllByRecursion P behind → AllByRecursion P (event_placed o e d events behind)
placed-every P e d events behind Less p all more = (p, all)
placed-every P e d events behind Equal p all more = all
placed-every P e d events behind Greater p all more = (all.0, more)

pub add_event-every : (P : Event → Type 0) (e : Event) (events : List Event) → P e → AllByRecursion P events → AllByRecursion P (add_event e events)
add_event-every P e [] p all = (p, tt)
add_event-every P e (d ∷ events) p all = placed-every P e d events (add_event e events) (by_event e d) p all (add_event-every P e events p all.1)

every_step : (P : Event → Type 0) (e : Event) (events : List Event) (new : Bool) → (new ≡ true → P e) → AllByRecursion P events → AllByRecursion P (cond new (add_event e events) events)
every_step P e events true p all = add_event-every P e events (p refl) all
every_step P e events false p all = all

-- what holds of the event of each NEW line holds of each that is opened
pub events_opened_by-every : (P : Event → Type 0) (lines : List Line) → AllByRecursion (λ (line : Line). is_new line.action ≡ true → P line.event) lines → AllByRecursion P (events_opened_by lines)
events_opened_by-every P [] all = tt
events_opened_by-every P (line ∷ lines) all = every_step P line.event (events_opened_by lines) (is_new line.action) all.0 (events_opened_by-every P lines all.1)

above_all : (e d : Event) (events : List Event) → by_event e d ≡ Less → AllByRecursion (λ y. by_event d y ≡ Less) events → AllByRecursion (λ y. by_event e y ≡ Less) events
above_all e d [] h all = tt
above_all e d (y ∷ ys) h all = (by_event_total.trans e d y h all.0, above_all e d ys h all.1)

placed-up : (e d : Event) (events : List Event) (o : Ordering) → by_event e d ≡ o → IsStrictlySortedBy by_event (d ∷ events) → IsStrictlySortedBy by_event (add_event e events) → IsStrictlySortedBy by_event (event_placed o e d events (add_event e events))
unfolding IsStrictlySortedBy
placed-up e d events Less h up more = ((h, above_all e d events h up.0), up)
placed-up e d events Equal h up more = up
placed-up e d events Greater h up more = (add_event-every (λ y. by_event d y ≡ Less) e events (by_event_total.antisymm d e ∙ ap ordering_reverse h) up.0, more)

pub add_event-up : (e : Event) (events : List Event) → IsStrictlySortedBy by_event events → IsStrictlySortedBy by_event (add_event e events)
unfolding IsStrictlySortedBy
add_event-up e [] up = (tt, tt)
add_event-up e (d ∷ events) up = placed-up e d events (by_event e d) refl up (add_event-up e events up.1)

up_step : (e : Event) (events : List Event) (new : Bool) → IsStrictlySortedBy by_event events → IsStrictlySortedBy by_event (cond new (add_event e events) events)
up_step e events true up = add_event-up e events up
up_step e events false up = up

pub events_opened_by-up : (lines : List Line) → IsStrictlySortedBy by_event (events_opened_by lines)
unfolding IsStrictlySortedBy
events_opened_by-up [] = tt
events_opened_by-up (line ∷ lines) = up_step line.event (events_opened_by lines) (is_new line.action) (events_opened_by-up lines)

less_apart : (e : Event) (events : List Event) → AllByRecursion (λ y. by_event e y ≡ Less) events → AllByRecursion (λ y. same_event e y ≡ false) events
less_apart e [] all = tt
less_apart e (d ∷ events) all = (
  false_from_ne_true _ (λ h.
      let same = event_one e d h in
      let tied : by_event e d ≡ Equal = subst (λ (y : Event). by_event e y ≡ Equal) same (tied_itself by_event_total e) in
      let less : by_event e d ≡ Less = all.0 in cc),
  less_apart e events all.1,
)

distinct_up : (events : List Event) → IsStrictlySortedBy by_event events → IsDistinct same_event events
unfolding IsStrictlySortedBy IsDistinct
distinct_up [] up = tt
distinct_up (e ∷ events) up = (less_apart e events up.0, distinct_up events up.1)

-- over products

all_weaker : (P Q : Event → Type 0) → ((e : Event) → P e → Q e) → (events : List Event) → AllByRecursion P events → AllByRecursion Q events
all_weaker P Q f [] all = tt
all_weaker P Q f (e ∷ events) all = (f e all.0, all_weaker P Q f events all.1)

pub all_joined : {X : Type 0} (P : X → Type 0) (xs ys : List X) → AllByRecursion P xs → AllByRecursion P ys → AllByRecursion P (xs ++ ys)
all_joined P [] ys all more = more
all_joined P (x ∷ xs) ys all more = (all.0, all_joined P xs ys all.1 more)

lines_weaker : (P Q : Line → Type 0) → ((line : Line) → P line → Q line) → (lines : List Line) → AllByRecursion P lines → AllByRecursion Q lines
lines_weaker P Q f [] all = tt
lines_weaker P Q f (l ∷ lines) all = (f l all.0, lines_weaker P Q f lines all.1)

-- an event that has no rows later has none before
none_before : (rows : List Row) (p : Product) (e : Event) → has_rows (rows_with rows p) e ≡ false → has_rows rows e ≡ false
none_before rows p e h = false_from_ne_true _ (λ g. both_ways _ h (stay_after rows p.issue (lines_of rows p.issue p.said) e g))

opened_of-none : (rows : List Row) (products : List Product) → AllByRecursion (λ e. has_rows rows e ≡ false) (opened_from rows products)
opened_of-none rows [] = tt
opened_of-none rows (p ∷ products) =
    let lines = lines_of rows p.issue p.said in
    all_joined (λ e. has_rows rows e ≡ false) (events_opened_by (lawful_of (judged_product rows p))) (opened_from (rows_with rows p) products)
    (events_opened_by-every (λ e. has_rows rows e ≡ false) (lawful_of (judged_product rows p)) (lawful_of-none rows p.issue lines [] lines))
    (all_weaker (λ e. has_rows (rows_with rows p) e ≡ false) (λ e. has_rows rows e ≡ false) (none_before rows p) (opened_from (rows_with rows p) products) (opened_of-none (rows_with rows p) products))

apart_from : (rows : List Row) (x : Event) (ys : List Event) → has_rows rows x ≡ true → AllByRecursion (λ e. has_rows rows e ≡ false) ys → AllByRecursion (λ y. same_event x y ≡ false) ys
apart_from rows x [] h all = tt
apart_from rows x (y ∷ ys) h all =
    (false_from_ne_true _ (λ g. both_ways _ all.0 (subst (λ (e : Event). has_rows rows e ≡ true) (event_one x y g) h)), apart_from rows x ys h all.1)

distinct_joined : (rows : List Row) (xs ys : List Event) → AllByRecursion (λ e. has_rows rows e ≡ true) xs → AllByRecursion (λ e. has_rows rows e ≡ false) ys → IsDistinct same_event xs → IsDistinct same_event ys → IsDistinct same_event (xs ++ ys)
unfolding IsDistinct
distinct_joined rows [] ys have none own more = more
distinct_joined rows (x ∷ xs) ys have none own more =
    (all_joined (λ y. same_event x y ≡ false) xs ys own.0 (apart_from rows x ys have.0 none), distinct_joined rows xs ys have.1 none own.1 more)

once_from : (rows : List Row) (products : List Product) → IsDistinct same_event (opened_from rows products)
unfolding IsDistinct
once_from rows [] = tt
once_from rows (p ∷ products) =
    let lines = lines_of rows p.issue p.said in
    let opened = events_opened_by (lawful_of (judged_product rows p)) in
    distinct_joined (rows_with rows p) opened (opened_from (rows_with rows p) products)
    (events_opened_by-every (λ e. has_rows (rows_with rows p) e ≡ true) (lawful_of (judged_product rows p))
    (lines_weaker (λ (line : Line). has_rows (rows_with rows p) line.event ≡ true) (λ (line : Line). is_new line.action ≡ true → has_rows (rows_with rows p) line.event ≡ true) (λ line h new. h) (lawful_of (judged_product rows p)) (have_after rows p.issue lines)))
    (opened_of-none (rows_with rows p) products)
    (distinct_up opened (events_opened_by-up (lawful_of (judged_product rows p))))
    (once_from (rows_with rows p) products)

pub opened_once : (products : List Product) → IsDistinct same_event (opened_of products)
opened_once products = once_from [] products
