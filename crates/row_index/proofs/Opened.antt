-- The events of a hazard and number are those of its rows; of those that are open the one of the latest year.
use Rattle.std.proofs.Common.{◌≡◌, ◌∙◌, ◌==◌, ℕ, List, [], ◌∷◌, ◌++◌, ◌&&◌, ◌||◌, Bool, true, false, cond, Ordering, Less, Equal, Greater, Option, Some, None, unwrap_or, Vec, Global, fold, inl, inr, refl, ap, sym, subst, arith}
use Rattle.std.proofs.lemmas.Map.Lookups.{exact_pairs}
use Rattle.std.specs.Prelude.{nat_lt}
use Rattle.std.proofs.lemmas.Bool.{and_parts, false_from_ne_true, eqb-true}
use Rattle.std.proofs.lemmas.Bool.Decides.{nat_tests}
use Rattle.std.proofs.lemmas.Cmp.{tied_itself, then_total, on_total, nat_cmp_total}
use Rattle.std.proofs.lemmas.List.Folds.{list_any-append}
use Rattle.std.specs.BTreeMap.{insert_entry, is_at}
use Rattle.std.specs.Cmp.{IsTotalOrder}
use Rattle.std.specs.List.{AllByRecursion, list_any}
use Rattle.std.specs.List.Sorted.{IsStrictlySortedBy}
use Rattle.std.specs.Map.{lookup}
use Rattle.std.specs.Ordering.{match_ordering, nat_cmp}
use Rattle.hazard_types.specs.Orders.{by_hazard}
use Rattle.hazard_types.specs.Same.{same_hazard, same_event}
use Rattle.hazard_types.specs.declared.hazard.Event.{Event}
use Rattle.hazard_types.specs.declared.hazard.Hazard.{Hazard}
use Rattle.hazard_types.specs.declared.line.Row.{Row}
use Rattle.hazard_types.proofs.Equality.{hazard_one, hazard_itself, event_one, event_itself}
use Rattle.hazard_types.proofs.OrderLaws.{by_hazard_total, by_hazard_ties, numbers_tied}
use Rattle.event_life.specs.Periods.{keeps_open}
use Rattle.event_life.specs.Products.{by_key, put, has_rows, is_open, is_number_held, later_event, latest_open_event}
use Rattle.event_life.proofs.Members.{IsIn, any_in, in_any, one_way}
use Rattle.event_life.proofs.Puts.{put-sorted}
use Rattle.row_index.specs.declared.numbers.Number.{Number}
use Rattle.row_index.specs.Listing.{lists_of, list_at}
use Rattle.row_index.specs.Numbers.{number_of, by_number, has_number, with_event, events_with, AreOpened}
use Rattle.row_index.specs.Steps.{latest_open, add_each}
use Rattle.row_index.proofs.Lists.{at_same, at_other}
use Rattle.row_index.proofs.Tests.{any_same, any_put_plain, or_false}
use Rattle.row_index.proofs.Tests as keys

-- hazards and numbers

by_number_total : IsTotalOrder by_number
by_number_total = then_total (on_total (λ (k : Number). k.hazard) by_hazard_total) (on_total (λ (k : Number). k.etn) nat_cmp_total)

by_number_ties : (a b : Number) → by_number a b ≡ Equal → a ≡ b
by_number_ties a b h = ap (λ (p : Hazard × ℕ). record { hazard = p.0; etn = p.1 }) (exact_pairs by_hazard nat_cmp by_hazard_ties numbers_tied (a.hazard, a.etn) (b.hazard, b.etn) h)

itself : (n : ℕ) → (n == n) ≡ true
itself n = grind (arith, nat_tests)

pub number_own : (r : Row) → has_number (number_of r.event) r ≡ true
number_own r = rw (hazard_itself r.event.hazard, itself r.event.etn) refl

pub number_one : (k : Number) (r : Row) → has_number k r ≡ true → k ≡ number_of r.event
number_one k r h =
    let p = and_parts (same_hazard r.event.hazard k.hazard) _ h in
    let hazard_is = hazard_one r.event.hazard k.hazard p.0 in
    let etn_is = eqb-true r.event.etn k.etn p.1 in
    λ i. record { hazard = sym hazard_is i; etn = sym etn_is i }

-- a map's lists, where an event is put at its key

abbrev Known : Type 0
Known = Vec Event Global

module _ {K : Type 0} (cmp : K → K → Ordering) where
  by_order : (o : Ordering) (e : K × Known) (es : List (K × Known)) (k : K) (w : Known) (tail : List (K × List Event)) → lists_of (insert_entry cmp es k w) ≡ tail
      → lists_of (match_ordering o ((k, w) ∷ e ∷ es) ((e.0, w) ∷ es) (e ∷ insert_entry cmp es k w))
      ≡ match_ordering o ((k, w.items) ∷ (e.0, e.1.items) ∷ lists_of es) ((e.0, w.items) ∷ lists_of es) ((e.0, e.1.items) ∷ tail)
  by_order Less e es k w tail later = refl
  by_order Equal e es k w tail later = refl
  by_order Greater e es k w tail later = rw later refl

  lists-insert : (es : List (K × Known)) (k : K) (w : Known) → lists_of (insert_entry cmp es k w) ≡ insert_entry cmp (lists_of es) k w.items
  lists-insert [] k w = refl
  lists-insert (e ∷ es) k w = by_order (cmp k e.0) e es k w _ (lists-insert es k w)

  -- the events of a list, which has none where there is no list
  abbrev pub known_of : Option Known → List Event
  known_of None = []
  known_of (Some w) = w.items

  at_first : (b : Bool) (e : K × Known) (o : Option Known) (p : Option (List Event)) → known_of o ≡ unwrap_or p [] → known_of (cond b (Some e.1) o) ≡ unwrap_or (cond b (Some e.1.items) p) []
  at_first true e o p h = refl
  at_first false e o p h = h

  known-at : (es : List (K × Known)) (k : K) → known_of (lookup (is_at (cmp k)) es) ≡ list_at cmp (lists_of es) k
  known-at [] k = refl
  known-at (e ∷ es) k = at_first (is_at (cmp k) e.0) e (lookup (is_at (cmp k)) es) (lookup (is_at (cmp k)) (lists_of es)) (known-at es k)

  pub events-found : (es : List (K × Known)) (k : K) (o : Option Known) → o ≡ lookup (is_at (cmp k)) es → known_of o ≡ list_at cmp (lists_of es) k
  events-found es k o is = ap known_of is ∙ known-at es k

  known-or : (o : Option Known) (d r : Known) → r ≡ unwrap_or o d → d.items ≡ [] → r.items ≡ known_of o
  known-or None d r is empty = rw is empty
  known-or (Some w) d r is empty = ap (λ (v : Known). v.items) is

  -- the list at a key, or a new one, with one more event
  pub lists-put : (new es : List (K × Known)) (k : K) (w d r : Known) (event : Event) → new ≡ insert_entry cmp es k w → r ≡ unwrap_or (lookup (is_at (cmp k)) es) d → d.items ≡ [] → w.items ≡ with_event event r.items
      → lists_of new ≡ insert_entry cmp (lists_of es) k (with_event event (list_at cmp (lists_of es) k))
  lists-put new es k w d r event is found empty has =
      let items : w.items ≡ with_event event (list_at cmp (lists_of es) k) = has ∙ ap (with_event event) (known-or (lookup (is_at (cmp k)) es) d r found empty ∙ known-at es k) in
      ap lists_of is ∙ lists-insert es k w ∙ ap (λ (events : List Event). insert_entry cmp (lists_of es) k events) items

abbrev Lists : Type 0
Lists = List (Number × List Event)

at_one : (q k : Number) → is_at (by_number q) k ≡ true → q ≡ k
at_one q k h = keys.at_one by_number by_number_total by_number_ties q k h

at_itself : (k : Number) → is_at (by_number k) k ≡ true
at_itself k = rw (tied_itself by_number_total k) refl

-- one row more

abbrev of_number : Number → (Event → Bool) → Row → Bool
of_number k q r = has_number k r && q r.event

more_by : (b : Bool) (q : Event → Bool) (e : Event) (events : List Event) → list_any (λ (d : Event). same_event d e) events ≡ b
    → list_any q (cond b events (events ++ e ∷ [])) ≡ (q e || list_any q events)
more_by true q e events h =
    let w = any_in (λ (d : Event). same_event d e) events h in
    known (q e) (list_any q events) (λ g. in_any q events w.0 w.1 (subst (λ (d : Event). q d ≡ true) (sym (event_one w.0 e w.2)) g))
  where
    known : (a b : Bool) → (a ≡ true → b ≡ true) → b ≡ (a || b)
    known true b f = f refl
    known false b f = refl
more_by false q e events h = list_any-append q events (e ∷ []) ∙ turned (list_any q events) (q e)
  where
    turned : (a b : Bool) → (a || (b || false)) ≡ (b || a)
    turned true true = refl
    turned true false = refl
    turned false true = refl
    turned false false = refl

put_plain : (k : Number) (q : Event → Bool) (row : Row) (rows : List Row) → IsStrictlySortedBy by_key rows → list_any (of_number k q) (put row rows) ≡ (of_number k q row || list_any (of_number k q) rows)
put_plain k q row rows up = any_put_plain (of_number k q) (λ a b z e. rw e refl) row rows up

abbrev pub put_known : Lists → Row → Lists
put_known events row = insert_entry by_number events (number_of row.event) (with_event row.event (list_at by_number events (number_of row.event)))

opened_by : (b : Bool) (events : Lists) (rows : List Row) (row : Row) (k : Number) → is_at (by_number k) (number_of row.event) ≡ b → IsStrictlySortedBy by_key rows → AreOpened events rows
    → (q : Event → Bool) → list_any q (list_at by_number (put_known events row) k) ≡ list_any (of_number k q) (put row rows)
opened_by true events rows row k h up opened q =
    let n = number_of row.event in
    let own : list_any q (list_at by_number (put_known events row) n) ≡ list_any (of_number n q) (put row rows) =
    ap (list_any q) (at_same by_number by_number_total by_number_ties n events (with_event row.event (list_at by_number events n)))
    ∙ more_by (list_any (λ (d : Event). same_event d row.event) (list_at by_number events n)) q row.event (list_at by_number events n) refl
    ∙ (let later = opened n q in let first : q row.event ≡ of_number n q row = rw (number_own row) refl in (λ i. first i || later i))
    ∙ sym (put_plain n q row rows up) in
    subst (λ (m : Number). list_any q (list_at by_number (put_known events row) m) ≡ list_any (of_number m q) (put row rows)) (sym (at_one k n h)) own
opened_by false events rows row k h up opened q =
    let n = number_of row.event in
    let left : has_number k row ≡ false = false_from_ne_true _ (λ g.
    let tied : is_at (by_number k) n ≡ true = subst (λ (m : Number). is_at (by_number m) n ≡ true) (sym (number_one k row g)) (at_itself n) in
    let e : true ≡ false = sym tied ∙ h in cc) in
    let none : of_number k q row ≡ false = rw left refl in
    ap (list_any q) (at_other by_number by_number_total by_number_ties k n events (with_event row.event (list_at by_number events n)) h) ∙ opened k q
    ∙ ap (λ (b : Bool). b || list_any (of_number k q) rows) (sym none) ∙ sym (put_plain k q row rows up)

opened-put : (events : Lists) (rows : List Row) (row : Row) → IsStrictlySortedBy by_key rows → AreOpened events rows → AreOpened (put_known events row) (put row rows)
opened-put events rows row up opened k q = opened_by (is_at (by_number k) (number_of row.event)) events rows row k refl up opened q

-- a row of an event that has others tells no other event
opened-known : (events : Lists) (rows : List Row) (row : Row) → IsStrictlySortedBy by_key rows → has_rows rows row.event ≡ true → AreOpened events rows → AreOpened events (put row rows)
opened-known events rows row up there opened k q =
    let w = any_in (λ (r : Row). same_event r.event row.event) rows there in
    let event_is = event_one w.0.event row.event w.2 in
    opened k q
    ∙ known (of_number k q row) (list_any (of_number k q) rows) (λ h. in_any (of_number k q) rows w.0 w.1 (subst (λ (e : Event). (same_hazard e.hazard k.hazard && (e.etn == k.etn) && q e) ≡ true) (sym event_is) h))
    ∙ sym (put_plain k q row rows up)
  where
    known : (a b : Bool) → (a ≡ true → b ≡ true) → b ≡ (a || b)
    known true b f = f refl
    known false b f = refl

own_rows : (e : Event) (row : Row) (rows : List Row) → IsStrictlySortedBy by_key rows → row.event ≡ e → has_rows (put row rows) e ≡ true
own_rows e row rows up is =
    any_put_plain (λ (r : Row). same_event r.event e) (λ a b z d. rw d refl) row rows up
    ∙ ap (λ (b : Bool). b || has_rows rows e) (subst (λ (d : Event). same_event d e ≡ true) (sym is) (event_itself e))

-- rows of an event that has others, put in turn
opened-run : (e : Event) (rows all : List Row) (events : Lists) → IsStrictlySortedBy by_key all → AllByRecursion (λ (r : Row). r.event ≡ e) rows → has_rows all e ≡ true → AreOpened events all → AreOpened events (add_each rows all)
opened-run e [] all events up own there opened = opened
opened-run e (r ∷ rows) all events up own there opened =
    opened-run e rows (put r all) events (put-sorted r all up) own.1 (own_rows e r all up own.0)
    (opened-known events all r up (subst (λ (d : Event). has_rows all d ≡ true) (sym own.0) there) opened)

-- and rows of an event, whether it had others or not
pub opened-with : (known : Bool) (e : Event) (r : Row) (rows all : List Row) (events : Lists) → IsStrictlySortedBy by_key all → r.event ≡ e → AllByRecursion (λ (r : Row). r.event ≡ e) rows → (known ≡ true → has_rows all e ≡ true) → AreOpened events all
    → AreOpened (events_with known e events) (add_each (r ∷ rows) all)
opened-with true e r rows all events up is own there opened = opened-run e (r ∷ rows) all events up (is, own) (there refl) opened
opened-with false e r rows all events up is own there opened =
    opened-run e rows (put r all) (events_with false e events) (put-sorted r all up) own (own_rows e r all up is)
    (subst (λ (d : Event). AreOpened (events_with false d events) (put r all)) is (opened-put events all r up opened))

-- what is asked of the events of a number

-- an event is open exactly where a row of it keeps it open
pub open_own : (rows : List Row) (t : ℕ) (r : Row) → IsIn r rows → keeps_open t r ≡ true → is_open rows t r.event ≡ true
open_own rows t r is h = in_any (λ (s : Row). same_event s.event r.event && keeps_open t s) rows r is (rw (event_itself r.event, h) refl)

pub open_by : (rows : List Row) (t : ℕ) (e : Event) → is_open rows t e ≡ true → (r : Row) × IsIn r rows × (r.event ≡ e) × (keeps_open t r ≡ true)
open_by rows t e h =
    let w = any_in (λ (s : Row). same_event s.event e && keeps_open t s) rows h in
    let p = and_parts (same_event w.0.event e) _ w.2 in
    (w.0, w.1, event_one w.0.event e p.0, p.1)

three : (a b c : Bool) → a ≡ true → b ≡ true → c ≡ true → ((a && b) && c) ≡ true
three a b c p q r = rw (p, q, r) refl

pub is_number_held-told : (events : Lists) (rows : List Row) (t : ℕ) (e : Event) → AreOpened events rows
    → list_any (λ (d : Event). nat_lt d.year e.year && is_open rows t d) (list_at by_number events (number_of e)) ≡ is_number_held rows t e
is_number_held-told events rows t e opened =
    let k = number_of e in
    let asks : Event → Bool = λ d. nat_lt d.year e.year && is_open rows t d in
    let held : Row → Bool = λ r. same_hazard r.event.hazard e.hazard && (r.event.etn == e.etn) && nat_lt r.event.year e.year && keeps_open t r in
    opened k asks
    ∙ one_way (list_any (of_number k asks) rows) (list_any held rows)
    (λ h.
    let w = any_in (of_number k asks) rows h in
    let p = and_parts (has_number k w.0) _ w.2 in
    let q = and_parts (nat_lt w.0.event.year e.year) _ p.1 in
    let o = open_by rows t w.0.event q.1 in
    let found : held o.0 ≡ true = subst (λ (d : Event). (same_hazard d.hazard e.hazard && (d.etn == e.etn) && nat_lt d.year e.year && keeps_open t o.0) ≡ true) (sym o.2) (three (has_number k w.0) (nat_lt w.0.event.year e.year) (keeps_open t o.0) p.0 q.0 o.3) in
    in_any held rows o.0 o.1 found)
    (λ h.
    let w = any_in held rows h in
    let p = and_parts (same_hazard w.0.event.hazard e.hazard && (w.0.event.etn == e.etn) && nat_lt w.0.event.year e.year) _ w.2 in
    let q = and_parts (same_hazard w.0.event.hazard e.hazard && (w.0.event.etn == e.etn)) _ p.0 in
    let found : of_number k asks w.0 ≡ true = rw (q.0, q.1, open_own rows t w.0 w.1 p.1) refl in
    in_any (of_number k asks) rows w.0 w.1 found)

-- the latest of items that pass

abbrev pub latest_from : {X : Type 0} → (X → Bool) → (X → Event) → Option Event → List X → Option Event
latest_from {X} p event best xs = fold (λ (best : Option Event) (x : X). cond (p x) (later_event best (event x)) best) best xs

abbrev is_later : ℕ → Option Event → Bool
is_later y None = false
is_later y (Some d) = nat_lt y d.year

abbrev is_there : Option Event → Bool
is_there None = false
is_there (Some d) = true

later_year : (y d e : ℕ) → nat_lt d e ≡ true → nat_lt y e ≡ (nat_lt y d || nat_lt y e)
later_year y d e h = by_year (nat_lt y d) (nat_lt y e) (λ g. grind (arith, nat_tests))
  where
    by_year : (a b : Bool) → (a ≡ true → b ≡ true) → b ≡ (a || b)
    by_year true b f = f refl
    by_year false b f = refl

earlier_year : (y d e : ℕ) → nat_lt d e ≡ false → nat_lt y d ≡ (nat_lt y d || nat_lt y e)
earlier_year y d e h = by_year (nat_lt y d) (nat_lt y e) (λ g. grind (arith, nat_tests))
  where
    by_year : (a b : Bool) → (b ≡ true → a ≡ true) → a ≡ (a || b)
    by_year true b f = refl
    by_year false true f = f refl
    by_year false false f = refl

later_one : (y : ℕ) (best : Option Event) (e : Event) → is_later y (later_event best e) ≡ (is_later y best || nat_lt y e.year)
later_one y None e = refl
later_one y (Some d) e = by_order (nat_lt d.year e.year) refl
  where
    by_order : (b : Bool) → nat_lt d.year e.year ≡ b → is_later y (cond b (Some e) (Some d)) ≡ (nat_lt y d.year || nat_lt y e.year)
    by_order true h = later_year y d.year e.year h
    by_order false h = earlier_year y d.year e.year h

there_one : (best : Option Event) (e : Event) → is_there (later_event best e) ≡ true
there_one None e = refl
there_one (Some d) e = by_order (nat_lt d.year e.year)
  where
    by_order : (b : Bool) → is_there (cond b (Some e) (Some d)) ≡ true
    by_order true = refl
    by_order false = refl

or_assoc : (a b c : Bool) → ((a || b) || c) ≡ (a || (b || c))
or_assoc true b c = refl
or_assoc false b c = refl

abbrev HasAll : (Event → Type 0) → Option Event → Type 0
HasAll P None = Unit {0}
HasAll P (Some d) = P d

module _ {X : Type 0} (p : X → Bool) (event : X → Event) where
  later_step : (y : ℕ) (b : Bool) (best : Option Event) (e : Event) → is_later y (cond b (later_event best e) best) ≡ (is_later y best || (b && nat_lt y e.year))
  later_step y true best e = later_one y best e
  later_step y false best e = sym (or_false (is_later y best))

  later_all : (y : ℕ) (best : Option Event) (xs : List X) → is_later y (latest_from p event best xs) ≡ (is_later y best || list_any (λ x. p x && nat_lt y (event x).year) xs)
  later_all y best [] = sym (or_false (is_later y best))
  later_all y best (x ∷ xs) =
      later_all y (cond (p x) (later_event best (event x)) best) xs
      ∙ ap (λ (b : Bool). b || list_any (λ x. p x && nat_lt y (event x).year) xs) (later_step y (p x) best (event x))
      ∙ or_assoc (is_later y best) (p x && nat_lt y (event x).year) (list_any (λ x. p x && nat_lt y (event x).year) xs)

  there_step : (b : Bool) (best : Option Event) (e : Event) → is_there (cond b (later_event best e) best) ≡ (is_there best || b)
  there_step true best e = there_one best e ∙ turned (is_there best)
    where
      turned : (a : Bool) → true ≡ (a || true)
      turned true = refl
      turned false = refl
  there_step false best e = sym (or_false (is_there best))

  there_all : (best : Option Event) (xs : List X) → is_there (latest_from p event best xs) ≡ (is_there best || list_any p xs)
  there_all best [] = sym (or_false (is_there best))
  there_all best (x ∷ xs) =
      there_all (cond (p x) (later_event best (event x)) best) xs
      ∙ ap (λ (b : Bool). b || list_any p xs) (there_step (p x) best (event x))
      ∙ or_assoc (is_there best) (p x) (list_any p xs)

  module _ (P : Event → Type 0) where
    all_one : (best : Option Event) (e : Event) → HasAll P best → P e → HasAll P (later_event best e)
    all_one None e h q = q
    all_one (Some d) e h q = by_order (nat_lt d.year e.year)
      where
        by_order : (b : Bool) → HasAll P (cond b (Some e) (Some d))
        by_order true = q
        by_order false = h

    all_step : (b : Bool) (best : Option Event) (x : X) → p x ≡ b → (p x ≡ true → P (event x)) → HasAll P best → HasAll P (cond b (later_event best (event x)) best)
    all_step true best x e each h = all_one best (event x) h (each e)
    all_step false best x e each h = h

    pub all_latest : (best : Option Event) (xs : List X) → HasAll P best → ((x : X) → IsIn x xs → p x ≡ true → P (event x)) → HasAll P (latest_from p event best xs)
    all_latest best [] h each = h
    all_latest best (x ∷ xs) h each = all_latest (cond (p x) (later_event best (event x)) best) xs (all_step (p x) best x refl (each x (inl refl)) h) (λ y i. each y (inr i))

-- two latest events of a number are one, where what is asked of one list is true of the other

same_years : (m n : ℕ) → ((y : ℕ) → nat_lt y m ≡ nat_lt y n) → m ≡ n
same_years m n each = let a = each m in let b = each n in grind (arith, nat_tests)

same_latest : (k : Number) (a b : Option Event) → is_there a ≡ is_there b → ((y : ℕ) → is_later y a ≡ is_later y b)
    → HasAll (λ (e : Event). number_of e ≡ k) a → HasAll (λ (e : Event). number_of e ≡ k) b → a ≡ b
same_latest k None None there later p q = refl
same_latest k None (Some e) there later p q = cc
same_latest k (Some d) None there later p q = cc
same_latest k (Some d) (Some e) there later p q =
    let numbers = p ∙ sym q in
    let years = same_years d.year e.year later in
    ap Some (λ i. record { hazard = (numbers i).hazard; etn = (numbers i).etn; year = years i })

abbrev passes : (rows : List Row) (t : ℕ) (k : Number) → Row → Bool
passes rows t k r = same_hazard r.event.hazard k.hazard && (r.event.etn == k.etn) && keeps_open t r

-- of the events of a number those that are open are those of rows that keep them open
opened_alike : (events : List Event) (rows : List Row) (t : ℕ) (k : Number) → ((q : Event → Bool) → list_any q events ≡ list_any (of_number k q) rows) → (q : Event → Bool)
    → list_any (λ (d : Event). is_open rows t d && q d) events ≡ list_any (λ (r : Row). (has_number k r && keeps_open t r) && q r.event) rows
opened_alike events rows t k tells q =
    tells (λ d. is_open rows t d && q d)
    ∙ one_way (list_any (of_number k (λ d. is_open rows t d && q d)) rows) (list_any (λ (r : Row). (has_number k r && keeps_open t r) && q r.event) rows)
    (λ h.
    let w = any_in (of_number k (λ d. is_open rows t d && q d)) rows h in
    let p = and_parts (has_number k w.0) _ w.2 in
    let r = and_parts (is_open rows t w.0.event) _ p.1 in
    let o = open_by rows t w.0.event r.0 in
    let found : ((has_number k o.0 && keeps_open t o.0) && q o.0.event) ≡ true = subst (λ (d : Event). ((same_hazard d.hazard k.hazard && (d.etn == k.etn) && keeps_open t o.0) && q d) ≡ true) (sym o.2) (three (has_number k w.0) (keeps_open t o.0) (q w.0.event) p.0 o.3 r.1) in
    in_any (λ (r : Row). (has_number k r && keeps_open t r) && q r.event) rows o.0 o.1 found)
    (λ h.
    let w = any_in (λ (r : Row). (has_number k r && keeps_open t r) && q r.event) rows h in
    let p = and_parts (has_number k w.0 && keeps_open t w.0) _ w.2 in
    let r = and_parts (has_number k w.0) _ p.0 in
    let found : of_number k (λ d. is_open rows t d && q d) w.0 ≡ true = rw (r.0, open_own rows t w.0 w.1 r.1, p.1) refl in
    in_any (of_number k (λ d. is_open rows t d && q d)) rows w.0 w.1 found)

plain : (a : Bool) → a ≡ (a && true)
plain true = refl
plain false = refl

-- each event of the number's list has the number, or is not open
open_number : (events : List Event) (rows : List Row) (t : ℕ) (k : Number) → ((q : Event → Bool) → list_any q events ≡ list_any (of_number k q) rows)
    → (d : Event) → IsIn d events → number_of d ≡ k
open_number events rows t k tells d is =
    let here : list_any (λ (e : Event). same_event e d) events ≡ true = in_any (λ (e : Event). same_event e d) events d is (event_itself d) in
    let w = any_in (of_number k (λ e. same_event e d)) rows (sym (tells (λ e. same_event e d)) ∙ here) in
    let p = and_parts (has_number k w.0) _ w.2 in
    sym (number_one k w.0 p.0 ∙ ap number_of (event_one w.0.event d p.1))

pub going-told : (events : Lists) (rows : List Row) (t : ℕ) (k : Number) → AreOpened events rows → latest_open rows t (list_at by_number events k) ≡ latest_open_event rows k.hazard k.etn t
going-told events rows t k opened =
    let known = list_at by_number events k in
    let tells = opened k in
    let alike = opened_alike known rows t k tells in
    let there : list_any (is_open rows t) known ≡ list_any (passes rows t k) rows =
    any_same (is_open rows t) (λ d. is_open rows t d && true) known (λ d. plain (is_open rows t d))
    ∙ alike (λ _. true)
    ∙ any_same (λ r. (has_number k r && keeps_open t r) && true) (passes rows t k) rows (λ r. sym (plain (passes rows t k r))) in
    same_latest k (latest_from (is_open rows t) (λ d. d) None known) (latest_from (passes rows t k) (λ r. r.event) None rows)
    (there_all (is_open rows t) (λ d. d) None known ∙ there ∙ sym (there_all (passes rows t k) (λ r. r.event) None rows))
    (λ y. later_all (is_open rows t) (λ d. d) y None known ∙ alike (λ e. nat_lt y e.year) ∙ sym (later_all (passes rows t k) (λ r. r.event) y None rows))
    (all_latest (is_open rows t) (λ d. d) (λ e. number_of e ≡ k) None known tt (λ d i h. open_number known rows t k tells d i))
    (all_latest (passes rows t k) (λ r. r.event) (λ e. number_of e ≡ k) None rows tt (λ r i h. let p = and_parts (has_number k r) _ h in sym (number_one k r p.0)))
