-- The rows of each event are all rows: a row is found among those of its event, and put there it is put among all.
use Rattle.std.proofs.Common.{◌≡◌, ◌∙◌, ℕ, List, [], ◌∷◌, ◌++◌, ◌&&◌, Bool, true, false, cond, Option, Some, None, unwrap_or, Less, refl, ap, sym, subst}
use Rattle.std.proofs.lemmas.Bool.{and_parts}
use Rattle.std.specs.Prelude.{flat_map}
use Rattle.std.specs.BTreeMap.{is_at}
use Rattle.std.specs.List.{AllByRecursion, find, list_any}
use Rattle.std.specs.List.Sorted.{IsStrictlySortedBy}
use Rattle.std.specs.Map.{keys_of, lookup, values_of}
use Rattle.hazard_types.specs.Orders.{by_event}
use Rattle.hazard_types.specs.Places.{Place}
use Rattle.hazard_types.specs.Same.{same_event, same_zone}
use Rattle.hazard_types.specs.declared.hazard.Event.{Event}
use Rattle.hazard_types.specs.declared.line.Line.{Line}
use Rattle.hazard_types.specs.declared.line.Row.{Row}
use Rattle.hazard_types.proofs.Equality.{event_one, zone_itself}
use Rattle.hazard_types.proofs.OrderLaws.{by_event_total, by_event_ties}
use Rattle.event_life.specs.Periods.{is_live, keeps_open, same_at}
use Rattle.event_life.specs.Products.{by_key, put, row_at, has_rows, is_open, has_opened_period}
use Rattle.event_life.specs.Table.{opened_period}
use Rattle.event_life.proofs.FreeOrder.{told_by_keys}
use Rattle.event_life.proofs.Members.{IsIn, any_in, in_any, find_in, none_in, one_way}
use Rattle.event_life.proofs.Puts.{at_key, row_at-put, put-sorted, put-all}
use Rattle.row_index.specs.Holding.{puts, told, held_with, AreHeld, AreRowsOf}
use Rattle.row_index.specs.Listing.{list_at}
use Rattle.row_index.proofs.Lists.{at_same, at_other, at_none, at_each, each_put, ascending-put}
use Rattle.row_index.proofs.Seated.{event_by}
use Rattle.row_index.proofs.Tests.{at_one, found_own}

abbrev pub Rows : Type 0
Rows = List (Event × List Row)

abbrev Own : Event → List Row → Type 0
Own e rows = AllByRecursion (λ (r : Row). r.event ≡ e) rows

-- in order

pub none-sorted : IsStrictlySortedBy by_key []
unfolding IsStrictlySortedBy
none-sorted = tt

puts-sorted : (rows after : List Row) → IsStrictlySortedBy by_key after → IsStrictlySortedBy by_key (puts rows after)
puts-sorted [] after up = up
puts-sorted (r ∷ rows) after up = put-sorted r (puts rows after) (puts-sorted rows after up)

pub told-sorted : (es : Rows) → IsStrictlySortedBy by_key (told es)
unfolding IsStrictlySortedBy
told-sorted [] = tt
told-sorted (e ∷ es) = puts-sorted e.1 (told es) (told-sorted es)

-- a row is found among those of its event

abbrev first_of : Option Row → Option Row → Option Row
first_of None o = o
first_of (Some r) o = Some r

first_by : (b : Bool) (r : Row) (o p : Option Row) → cond b (Some r) (first_of o p) ≡ first_of (cond b (Some r) o) p
first_by true r o p = refl
first_by false r o p = refl

row_at-puts : (rows after : List Row) (e : Event) (z : Place) → row_at (puts rows after) e z ≡ first_of (row_at rows e z) (row_at after e z)
row_at-puts [] after e z = refl
row_at-puts (r ∷ rows) after e z =
    row_at-put r (puts rows after) e z
    ∙ ap (λ (o : Option Row). cond (at_key e z r) (Some r) o) (row_at-puts rows after e z)
    ∙ first_by (at_key e z r) r (row_at rows e z) (row_at after e z)

none_by : (b : Bool) (z : Bool) (r : Row) (o : Option Row) → b ≡ false → o ≡ None → cond (b && z) (Some r) o ≡ None
none_by true z r o h later = cc
none_by false z r o h later = later

-- rows of another event
none_of : (e d : Event) (z : Place) (rows : List Row) → Own d rows → same_event d e ≡ false → row_at rows e z ≡ None
none_of e d z [] own other = refl
none_of e d z (r ∷ rows) own other =
    none_by (same_event r.event e) (same_zone r.zone z) r (row_at rows e z) (subst (λ (x : Event). same_event x e ≡ false) (sym own.0) other) (none_of e d z rows own.1 other)

pub other_event : (e d : Event) → is_at (by_event e) d ≡ false → same_event d e ≡ false
other_event e d h = sym (event_by (by_event e d) e d refl) ∙ h

first_none : (o : Option Row) → first_of o None ≡ o
first_none None = refl
first_none (Some r) = refl

abbrev each_own : Rows → Type 0
each_own es = AllByRecursion (λ (e : Event × List Row). Own e.0 e.1) es

found-in : (es : Rows) → IsStrictlySortedBy by_event (keys_of es) → each_own es → (e : Event) (z : Place) → row_at (told es) e z ≡ row_at (list_at by_event es e) e z
unfolding IsStrictlySortedBy
found-in [] up each e z = refl
found-in (x ∷ es) up each e z = row_at-puts x.1 (told es) e z ∙ by_key_of (found-in es up.1 each.1 e z) (is_at (by_event e) x.0) refl
  where
    by_key_of : row_at (told es) e z ≡ row_at (list_at by_event es e) e z → (b : Bool) → is_at (by_event e) x.0 ≡ b → first_of (row_at x.1 e z) (row_at (told es) e z) ≡ row_at (unwrap_or (cond b (Some x.1) (lookup (is_at (by_event e)) es)) []) e z
    by_key_of later true h =
        let one : e ≡ x.0 = at_one by_event by_event_total by_event_ties e x.0 h in
        let behind : AllByRecursion (λ (d : Event). by_event e d ≡ Less) (keys_of es) = subst (λ (y : Event). AllByRecursion (λ (d : Event). by_event y d ≡ Less) (keys_of es)) (sym one) up.0 in
        let none : row_at (told es) e z ≡ None = later ∙ ap (λ (rows : List Row). row_at rows e z) (at_none by_event by_event_total by_event_ties e es behind) in
        ap (first_of (row_at x.1 e z)) none ∙ first_none (row_at x.1 e z)
    by_key_of later false h =
        let none : row_at x.1 e z ≡ None = none_of e x.0 z x.1 each.0 (other_event e x.0 h) in
        ap (λ (o : Option Row). first_of o (row_at (told es) e z)) none ∙ later

pub held-found : (es : Rows) → AreHeld es → (e : Event) (z : Place) → row_at (told es) e z ≡ row_at (list_at by_event es e) e z
held-found es held e z = found-in es held.ascending held.each e z

pub held-part : (es : Rows) (e : Event) (part : List Row) → AreHeld es → part ≡ list_at by_event es e → IsStrictlySortedBy by_key part → AreRowsOf (told es) e part
held-part es e part held is up = record {
  whole = told-sorted es;
  in_order = up;
  found = λ z. held-found es held e z ∙ ap (λ (rows : List Row). row_at rows e z) (sym is);
}

-- a row is put

pub held-own : (es : Rows) (e : Event) → AreHeld es → Own e (list_at by_event es e)
held-own es e held = at_each by_event by_event_total by_event_ties Own e es held.each tt

abbrev InOrder : Event → List Row → Type 0
InOrder e rows = IsStrictlySortedBy by_key rows

pub held-sorted : (es : Rows) (e : Event) → AreHeld es → IsStrictlySortedBy by_key (list_at by_event es e)
held-sorted es e held = at_each by_event by_event_total by_event_ties InOrder e es held.in_order none-sorted

pub held-with : (row : Row) (es : Rows) → AreHeld es → AreHeld (held_with row es)
held-with row es held =
    let rows = put row (list_at by_event es row.event) in
    record {
      ascending = ascending-put by_event by_event_total by_event_ties row.event es rows held.ascending;
      each = each_put by_event by_event_total by_event_ties Own row.event es rows (put-all (λ (r : Row). r.event ≡ row.event) row (list_at by_event es row.event) refl (held-own es row.event held)) held.each;
      in_order = each_put by_event by_event_total by_event_ties InOrder row.event es rows (put-sorted row (list_at by_event es row.event) (held-sorted es row.event held)) held.in_order;
    }

put_apart : (e : Event) (z : Place) (row : Row) (o : Option Row) → same_event row.event e ≡ false → o ≡ cond (at_key e z row) (Some row) o
put_apart e z row o h = rw h refl

pub told-with : (row : Row) (es : Rows) → AreHeld es → told (held_with row es) ≡ put row (told es)
told-with row es held =
    told_by_keys (told (held_with row es)) (put row (told es)) (told-sorted (held_with row es)) (put-sorted row (told es) (told-sorted es)) (λ e z. found e z (is_at (by_event e) row.event) refl)
  where
    rows : List Row
    rows = list_at by_event es row.event

    own : (z : Place) → row_at (told (held_with row es)) row.event z ≡ row_at (put row (told es)) row.event z
    own z =
        held-found (held_with row es) (held-with row es held) row.event z
        ∙ ap (λ (all : List Row). row_at all row.event z) (at_same by_event by_event_total by_event_ties row.event es (put row rows))
        ∙ row_at-put row rows row.event z
        ∙ ap (λ (o : Option Row). cond (at_key row.event z row) (Some row) o) (sym (held-found es held row.event z))
        ∙ sym (row_at-put row (told es) row.event z)

    found : (e : Event) (z : Place) (b : Bool) → is_at (by_event e) row.event ≡ b → row_at (told (held_with row es)) e z ≡ row_at (put row (told es)) e z
    found e z true h = subst (λ (d : Event). row_at (told (held_with row es)) d z ≡ row_at (put row (told es)) d z) (sym (at_one by_event by_event_total by_event_ties e row.event h)) (own z)
    found e z false h =
        held-found (held_with row es) (held-with row es held) e z
        ∙ ap (λ (all : List Row). row_at all e z) (at_other by_event by_event_total by_event_ties e row.event es (put row rows) h)
        ∙ sym (held-found es held e z)
        ∙ put_apart e z row (row_at (told es) e z) (other_event e row.event h)
        ∙ sym (row_at-put row (told es) e z)

-- what is asked of an event is read off its rows

module _ (rows part : List Row) (e : Event) (of : AreRowsOf rows e part) where
  into : (xs ys : List Row) (p : Row → Bool) → IsStrictlySortedBy by_key xs → ((z : Place) → row_at xs e z ≡ row_at ys e z) → ((r : Row) → p r ≡ true → r.event ≡ e) → list_any p xs ≡ true → list_any p ys ≡ true
  into xs ys p up same own h =
      let w = any_in p xs h in
      let r = w.0 in
      let here : row_at xs e r.zone ≡ Some r = subst (λ (d : Event). row_at xs d r.zone ≡ Some r) (own r w.2) (found_own xs r up w.1) in
      in_any p ys r (find_in (at_key e r.zone) ys r (sym (same r.zone) ∙ here)).0 w.2

  any_of : (p : Row → Bool) → ((r : Row) → p r ≡ true → r.event ≡ e) → list_any p part ≡ list_any p rows
  any_of p own = one_way (list_any p part) (list_any p rows) (into part rows p of.in_order (λ z. sym (of.found z)) own) (into rows part p of.whole of.found own)

  pub has_rows-of : has_rows part e ≡ has_rows rows e
  has_rows-of = any_of (λ (r : Row). same_event r.event e) (λ r h. event_one r.event e h)

  pub is_open-of : (t : ℕ) → is_open part t e ≡ is_open rows t e
  is_open-of t = any_of (λ (r : Row). same_event r.event e && keeps_open t r) (λ r h. event_one r.event e (and_parts (same_event r.event e) _ h).0)

pub has_opened_period-of : (rows part : List Row) (t : ℕ) (line : Line) → AreRowsOf rows line.event part → has_opened_period part t line ≡ has_opened_period rows t line
has_opened_period-of rows part t line of =
    any_of rows part line.event of (λ (r : Row). same_event r.event line.event && is_live t r && same_at t r.period (opened_period line t))
    (λ r h. event_one r.event line.event (and_parts (same_event r.event line.event) _ (and_parts (same_event r.event line.event && is_live t r) _ h).0).0)

-- all rows, one event after another

puts-append : (xs ys after : List Row) → puts (xs ++ ys) after ≡ puts xs (puts ys after)
puts-append [] ys after = refl
puts-append (x ∷ xs) ys after = ap (put x) (puts-append xs ys after)

pub told-all : (es : Rows) → puts (flat_map (λ (rows : List Row). rows) (values_of es)) [] ≡ told es
told-all [] = refl
told-all (e ∷ es) = puts-append e.1 (flat_map (λ (rows : List Row). rows) (values_of es)) [] ∙ ap (puts e.1) (told-all es)

-- an event that has rows of its own has them among all

found_one : (p : Row → Bool) (rows : List Row) (r : Row) → IsIn r rows → p r ≡ true → (o : Option Row) → find p rows ≡ o → (y : Row) × (find p rows ≡ Some y)
found_one p rows r is h (Some y) found = (y, found)
found_one p rows r is h None found = let e : true ≡ false = sym (in_any p rows r is h) ∙ none_in p rows found in cc

pub has_rows-told : (es : Rows) (e : Event) → AreHeld es → has_rows (list_at by_event es e) e ≡ true → has_rows (told es) e ≡ true
has_rows-told es e held h =
    let part = list_at by_event es e in
    let w = any_in (λ (r : Row). same_event r.event e) part h in
    let z = w.0.zone in
    let own : at_key e z w.0 ≡ true = rw (w.2, zone_itself z) refl in
    let found = found_one (at_key e z) part w.0 w.1 own (row_at part e z) refl in
    let there = find_in (at_key e z) (told es) found.0 (held-found es held e z ∙ found.1) in
    in_any (λ (r : Row). same_event r.event e) (told es) found.0 there.0 (and_parts (same_event found.0.event e) _ there.1).0
