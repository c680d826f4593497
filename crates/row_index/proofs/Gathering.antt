-- The live rows of events in the zones that UPG lines speak of: those of one zone more, of one event more, and what they tell a line.
use Rattle.std.proofs.Common.{◌≡◌, ◌∙◌, inl, inr, ◌<◌, ◌≤◌, ◌+◌, ◌==◌, ℕ, zero, suc, List, [], ◌∷◌, ◌++◌, ◌&&◌, ◌||◌, not, Bool, true, false, cond, map, get_or, length, take, drop, drop-cons, Ordering, Equal, Option, Some, None, Result, Ok, Err, IfOk, refl, ap, sym, subst, arith}
use Rattle.std.specs.Prelude.{is_none, nat_le, unwrap_or}
use Rattle.std.proofs.lemmas.Bool.{and_parts}
use Rattle.std.proofs.lemmas.Bool.Decides.{nat_tests}
use Rattle.std.proofs.lemmas.List.Folds.{list_any-append}
use Rattle.std.specs.BTreeMap.{is_at}
use Rattle.std.specs.BTreeSet.{insert_key}
use Rattle.std.specs.Cmp.{IsTotalOrder}
use Rattle.std.specs.List.{list_any}
use Rattle.std.specs.List.Sorted.{IsStrictlySortedBy}
use Rattle.hazard_types.specs.Orders.{by_event}
use Rattle.hazard_types.specs.Places.{Place, by_place}
use Rattle.hazard_types.specs.Same.{same_event, same_zone}
use Rattle.hazard_types.specs.declared.codes.Family.{Family}
use Rattle.hazard_types.specs.declared.hazard.Event.{Event}
use Rattle.hazard_types.specs.contracts.codes.FamilyPartialEq.TheImpl as family
use Rattle.hazard_types.specs.declared.line.Line.{Line}
use Rattle.hazard_types.specs.declared.line.Row.{Row}
use Rattle.hazard_types.proofs.Equality.{event_itself, family_one, zone_one}
use Rattle.hazard_types.proofs.OrderLaws.{by_event_total, by_event_ties, by_place_total, by_place_ties}
use Rattle.event_life.specs.Higher.{is_above}
use Rattle.hazard_types.specs.declared.period.End.{End}
use Rattle.hazard_types.specs.declared.period.End.TheVariants as end
use Rattle.event_life.specs.Periods.{ends_after, is_live, overlaps}
use Rattle.event_life.specs.Products.{by_key, put, row_at}
use Rattle.event_life.proofs.Members.{IsIn, all_of, any_in, in_any, find_in}
use Rattle.event_life.proofs.Puts.{at_key, at_key-parts, row_at-put, put-sorted}
use Rattle.row_index.specs.Gathering.{has_zone, least_of, lesser, lives, needed, or_later, with_row, with_rank, same_rank, zone_said, rank_of_line, IsLive, AreGathered}
use Rattle.row_index.specs.Holding.{AreRowsOf, told, AreHeld}
use Rattle.row_index.specs.Reaching.{rank_of, is_above_any, AreTold, Reaches}
use Rattle.row_index.specs.Seating.{upgrades}
use Rattle.row_index.specs.Steps.{AreHigher, AreOver}
use Rattle.row_index.specs.Telling.{Tells}
use Rattle.row_index.specs.declared.reach.Reach.{Reach}
use Rattle.row_index.proofs.HeldRows.{none-sorted}
use Rattle.row_index.proofs.Reached.{found-among}
use Rattle.row_index.proofs.Seated.{event_by, one_longer, same_by}
use Rattle.row_index.proofs.Tests.{and_false, and_true, any_insert, at_one, at_own}

-- keys of items that count

turned : (a b : Bool) → (a || b) ≡ (b || (a || false))
turned true true = refl
turned true false = refl
turned false true = refl
turned false false = refl

or_none : (a : Bool) → (a || false) ≡ a
or_none true = refl
or_none false = refl

module _ {K X : Type 0} (cmp : K → K → Ordering) (total : IsTotalOrder cmp) (ties : (a b : K) → cmp a b ≡ Equal → a ≡ b) (counts : X → Bool) (key : X → K) where
  -- an item that counts, and one that does not
  tells-in : (keys next : List K) (xs : List X) (i : ℕ) (x : X) → i < length xs → x ≡ get_or xs i x → counts x ≡ true → next ≡ insert_key cmp keys (key x) → Tells counts key keys (take i xs) → Tells counts key next (take (i + 1) xs)
  tells-in keys next xs i x within is h next_is tells q =
      ap (list_any q) next_is
      ∙ any_insert cmp total ties q (key x) keys
      ∙ ap (λ (b : Bool). q (key x) || b) (tells q)
      ∙ turned (q (key x)) (list_any (λ y. counts y && q (key y)) (take i xs))
      ∙ ap (λ (b : Bool). list_any (λ y. counts y && q (key y)) (take i xs) || ((b && q (key x)) || false)) (sym h)
      ∙ sym (list_any-append (λ y. counts y && q (key y)) (take i xs) (x ∷ []))
      ∙ ap (list_any (λ y. counts y && q (key y))) (sym (one_longer xs i x within is))

  tells-out : (keys : List K) (xs : List X) (i : ℕ) (x : X) → i < length xs → x ≡ get_or xs i x → counts x ≡ false → Tells counts key keys (take i xs) → Tells counts key keys (take (i + 1) xs)
  tells-out keys xs i x within is h tells q =
      tells q
      ∙ sym (or_none (list_any (λ y. counts y && q (key y)) (take i xs)))
      ∙ ap (λ (b : Bool). list_any (λ y. counts y && q (key y)) (take i xs) || ((b && q (key x)) || false)) (sym h)
      ∙ sym (list_any-append (λ y. counts y && q (key y)) (take i xs) (x ∷ []))
      ∙ ap (list_any (λ y. counts y && q (key y))) (sym (one_longer xs i x within is))

  -- one item more
  pub tells-next : (keys next : List K) (xs : List X) (i : ℕ) (x : X) (counted : Bool) → i < length xs → x ≡ get_or xs i x → counted ≡ counts x → next ≡ cond counted (insert_key cmp keys (key x)) keys
      → Tells counts key keys (take i xs) → Tells counts key next (take (i + 1) xs)
  tells-next keys next xs i x true within is h next_is tells = tells-in keys next xs i x within is (sym h) next_is tells
  tells-next keys next xs i x false within is h next_is tells = subst (λ (ks : List K). Tells counts key ks (take (i + 1) xs)) (sym next_is) (tells-out keys xs i x within is (sym h) tells)

any_mapped : {A B : Type 0} (f : A → B) (q : B → Bool) (xs : List A) → list_any q (map f xs) ≡ list_any (λ x. q (f x)) xs
any_mapped f q [] = refl
any_mapped f q (x ∷ xs) = ap (λ (b : Bool). q (f x) || b) (any_mapped f q xs)

-- ranks, each once

abbrev Rank : Type 0
Rank = Option (Family × ℕ)

number_one : (a b : ℕ) → (a == b) ≡ true → a ≡ b
number_one a b h = grind (arith, nat_tests)

rank_one : (a b : Rank) → same_rank a b ≡ true → a ≡ b
rank_one None None h = refl
rank_one None (Some g) h = cc
rank_one (Some f) None h = cc
rank_one (Some f) (Some g) h =
    let p = and_parts (family.eq-value.it f.0 g.0) _ h in
    let family_is = family_one f.0 g.0 p.0 in
    let number_is = number_one f.1 g.1 p.1 in
    λ i. Some (family_is i, number_is i)

there_twice : (a b : Bool) → (a ≡ true → b ≡ true) → b ≡ (a || b)
there_twice true b h = h refl
there_twice false b h = refl

any_rank : (q : Rank → Bool) (r : Rank) (ranks : List Rank) → list_any q (with_rank r ranks) ≡ (q r || list_any q ranks)
any_rank q r ranks = by_case (list_any (λ x. same_rank x r) ranks) refl
  where
    by_case : (b : Bool) → list_any (λ x. same_rank x r) ranks ≡ b → list_any q (cond b ranks (ranks ++ r ∷ [])) ≡ (q r || list_any q ranks)
    by_case true h =
        let w = any_in (λ x. same_rank x r) ranks h in
        there_twice (q r) (list_any q ranks) (λ g. in_any q ranks w.0 w.1 (subst (λ (x : Rank). q x ≡ true) (sym (rank_one w.0 r w.2)) g))
    by_case false h = list_any-append q ranks (r ∷ []) ∙ sym (turned (q r) (list_any q ranks))

-- one line more
pub ranks-next : (ranks next : List Rank) (lines : List Line) (i : ℕ) (line : Line) (counted : Bool) (rank : Rank) → i < length lines → line ≡ get_or lines i line → counted ≡ upgrades line → rank ≡ rank_of_line line
    → next ≡ cond counted (with_rank rank ranks) ranks → Tells upgrades rank_of_line ranks (take i lines) → Tells upgrades rank_of_line next (take (i + 1) lines)
ranks-next ranks next lines i line true rank within is counts rank_is next_is tells q =
    ap (list_any q) next_is
    ∙ any_rank q rank ranks
    ∙ ap (λ (r : Rank). q r || list_any q ranks) rank_is
    ∙ ap (λ (b : Bool). q (rank_of_line line) || b) (tells q)
    ∙ turned (q (rank_of_line line)) (list_any (λ l. upgrades l && q (rank_of_line l)) (take i lines))
    ∙ ap (λ (b : Bool). list_any (λ l. upgrades l && q (rank_of_line l)) (take i lines) || ((b && q (rank_of_line line)) || false)) counts
    ∙ sym (list_any-append (λ l. upgrades l && q (rank_of_line l)) (take i lines) (line ∷ []))
    ∙ ap (list_any (λ l. upgrades l && q (rank_of_line l))) (sym (one_longer lines i line within is))
ranks-next ranks next lines i line false rank within is counts rank_is next_is tells q =
    ap (list_any q) next_is
    ∙ tells q
    ∙ sym (or_none (list_any (λ l. upgrades l && q (rank_of_line l)) (take i lines)))
    ∙ ap (λ (b : Bool). list_any (λ l. upgrades l && q (rank_of_line l)) (take i lines) || ((b && q (rank_of_line line)) || false)) counts
    ∙ sym (list_any-append (λ l. upgrades l && q (rank_of_line l)) (take i lines) (line ∷ []))
    ∙ ap (list_any (λ l. upgrades l && q (rank_of_line l))) (sym (one_longer lines i line within is))

-- a live row comes over others

with-sorted : (t : ℕ) (o : Option Row) (rows : List Row) → IsStrictlySortedBy by_key rows → IsStrictlySortedBy by_key (with_row t o rows)
with-sorted t None rows up = up
with-sorted t (Some r) rows up = by_live (is_live t r)
  where
    by_live : (b : Bool) → IsStrictlySortedBy by_key (cond b (put r rows) rows)
    by_live true = put-sorted r rows up
    by_live false = up

pub row-own : (part : List Row) (e : Event) (y : Place) (r : Row) → row_at part e y ≡ Some r → (r.event ≡ e) × (r.zone ≡ y)
row-own part e y r is = at_key-parts e y r (find_in (at_key e y) part r is).1

with_other : (t : ℕ) (e d : Event) (z : Place) (o : Option Row) (rows : List Row) → ((r : Row) → o ≡ Some r → r.event ≡ e) → same_event e d ≡ false → row_at (with_row t o rows) d z ≡ row_at rows d z
with_other t e d z None rows own h = refl
with_other t e d z (Some r) rows own h = by_live (is_live t r)
  where
    apart : at_key d z r ≡ false
    apart = let away : same_event r.event d ≡ false = subst (λ (x : Event). same_event x d ≡ false) (sym (own r refl)) h in rw away refl

    by_live : (b : Bool) → row_at (cond b (put r rows) rows) d z ≡ row_at rows d z
    by_live true = row_at-put r rows d z ∙ ap (λ (b : Bool). cond b (Some r) (row_at rows d z)) apart
    by_live false = refl

with_own : (t : ℕ) (e : Event) (y z : Place) (o : Option Row) (rows : List Row) → ((r : Row) → o ≡ Some r → (r.event ≡ e) × (r.zone ≡ y)) → row_at (with_row t o rows) e z ≡ cond (same_zone y z && lives t o) o (row_at rows e z)
with_own t e y z None rows own = ap (λ (b : Bool). cond b None (row_at rows e z)) (sym (and_false (same_zone y z)))
with_own t e y z (Some r) rows own = by_live (is_live t r)
  where
    here : at_key e z r ≡ same_zone y z
    here =
        let k = own r refl in
        let event_is : same_event r.event e ≡ true = subst (λ (x : Event). same_event x e ≡ true) (sym k.0) (event_itself e) in
        ap (λ (b : Bool). b && same_zone r.zone z) event_is ∙ ap (λ (x : Place). same_zone x z) k.1

    by_live : (b : Bool) → row_at (cond b (put r rows) rows) e z ≡ cond (same_zone y z && b) (Some r) (row_at rows e z)
    by_live true = row_at-put r rows e z ∙ ap (λ (b : Bool). cond b (Some r) (row_at rows e z)) (here ∙ sym (and_true (same_zone y z)))
    by_live false = ap (λ (b : Bool). cond b (Some r) (row_at rows e z)) (sym (and_false (same_zone y z)))

joined : (r l : Bool) (p c : Option Row) → cond (r && l) p (cond (true && l) p c) ≡ cond ((true || r) && l) p c
joined true true p c = refl
joined true false p c = refl
joined false true p c = refl
joined false false p c = refl

-- what is left of the zones comes over the rows so far as all of them do over those before
pub record IsOnTheWay (t : ℕ) (e : Event) (rest all : Place → Bool) (part old now : List Row) : Type 0 where
  pub in_order : IsStrictlySortedBy by_key old → IsStrictlySortedBy by_key now
  pub other : (d : Event) (z : Place) → same_event e d ≡ false → row_at now d z ≡ row_at old d z
  pub own : (z : Place) → cond (rest z && lives t (row_at part e z)) (row_at part e z) (row_at now e z) ≡ cond (all z && lives t (row_at part e z)) (row_at part e z) (row_at old e z)

module _ (t : ℕ) (e : Event) (part : List Row) (y : Place) (rows next : List Row) (next_is : next ≡ with_row t (row_at part e y) rows) where
  next_own : (z : Place) → row_at next e z ≡ cond (same_zone y z && lives t (row_at part e y)) (row_at part e y) (row_at rows e z)
  next_own z = ap (λ (all : List Row). row_at all e z) next_is ∙ with_own t e y z (row_at part e y) rows (row-own part e y)

  by_zone : (i : Bool) (z : Place) (b : Bool) → same_zone y z ≡ b
      → cond (i && lives t (row_at part e z)) (row_at part e z) (cond (b && lives t (row_at part e y)) (row_at part e y) (row_at rows e z))
      ≡ cond ((b || i) && lives t (row_at part e z)) (row_at part e z) (row_at rows e z)
  by_zone i z true h =
      subst (λ (x : Place). cond (i && lives t (row_at part e z)) (row_at part e z) (cond (true && lives t (row_at part e x)) (row_at part e x) (row_at rows e z))
      ≡ cond ((true || i) && lives t (row_at part e z)) (row_at part e z) (row_at rows e z)) (sym (zone_one y z h))
      (joined i (lives t (row_at part e z)) (row_at part e z) (row_at rows e z))
  by_zone i z false h = refl

  -- one zone more
  own_step : (i : Bool) (j : Bool) (z : Place) → j ≡ (is_at (by_place z) y || i)
      → cond (i && lives t (row_at part e z)) (row_at part e z) (row_at next e z) ≡ cond (j && lives t (row_at part e z)) (row_at part e z) (row_at rows e z)
  own_step i j z j_is =
      ap (λ (o : Option Row). cond (i && lives t (row_at part e z)) (row_at part e z) o) (next_own z)
      ∙ by_zone i z (same_zone y z) refl
      ∙ ap (λ (b : Bool). cond (b && lives t (row_at part e z)) (row_at part e z) (row_at rows e z)) (sym (j_is ∙ ap (λ (b : Bool). b || i) (same_by (by_place z y) z y refl)))

  pub way-next : (rest more all : Place → Bool) (old : List Row) → ((z : Place) → more z ≡ (is_at (by_place z) y || rest z)) → IsOnTheWay t e more all part old rows → IsOnTheWay t e rest all part old next
  way-next rest more all old more_is way = record {
    in_order = λ up. subst (λ (xs : List Row). IsStrictlySortedBy by_key xs) (sym next_is) (with-sorted t (row_at part e y) rows (way.in_order up));
    other = λ d z h. ap (λ (xs : List Row). row_at xs d z) next_is ∙ with_other t e d z (row_at part e y) rows (λ r is. (row-own part e y r is).0) h ∙ way.other d z h;
    own = λ z. own_step (rest z) (more z) z (more_is z) ∙ way.own z;
  }

-- by the zones of the event

abbrev pub zones_of : List Row → List Place
zones_of rows = map (λ (r : Row). r.zone) rows

abbrev pub is_both : List Place → List Row → Place → Bool
is_both zones rest z = has_zone zones z && has_zone (zones_of rest) z

-- a zone that is among both, and one that is not
both-in : (zones : List Place) (rest : List Row) (r : Row) → has_zone zones r.zone ≡ true → (z : Place) → is_both zones (r ∷ rest) z ≡ (is_at (by_place z) r.zone || is_both zones rest z)
both-in zones rest r h z = by_case (is_at (by_place z) r.zone) refl
  where
    by_case : (b : Bool) → is_at (by_place z) r.zone ≡ b → (has_zone zones z && (b || has_zone (zones_of rest) z)) ≡ (b || is_both zones rest z)
    by_case true at = and_true (has_zone zones z) ∙ ap (has_zone zones) (at_one by_place by_place_total by_place_ties z r.zone at) ∙ h
    by_case false at = refl

both-out : (zones : List Place) (rest : List Row) (r : Row) → has_zone zones r.zone ≡ false → (z : Place) → is_both zones (r ∷ rest) z ≡ is_both zones rest z
both-out zones rest r h z = by_case (is_at (by_place z) r.zone) refl
  where
    by_case : (b : Bool) → is_at (by_place z) r.zone ≡ b → (has_zone zones z && (b || has_zone (zones_of rest) z)) ≡ is_both zones rest z
    by_case true at =
        let none : has_zone zones z ≡ false = ap (has_zone zones) (at_one by_place by_place_total by_place_ties z r.zone at) ∙ h in
        rw none refl
    by_case false at = refl

way_over : (t : ℕ) (e : Event) (rest more all : Place → Bool) (part old now : List Row) → ((z : Place) → more z ≡ rest z) → IsOnTheWay t e more all part old now → IsOnTheWay t e rest all part old now
way_over t e rest more all part old now same way = record {
  in_order = way.in_order;
  other = way.other;
  own = λ z. ap (λ (b : Bool). cond (b && lives t (row_at part e z)) (row_at part e z) (row_at now e z)) (sym (same z)) ∙ way.own z;
}

-- one row of the event more, which counts where its zone is among these
pub way-among : (t : ℕ) (e : Event) (zones : List Place) (rest items part old now next : List Row) (r : Row) (b : Bool) → has_zone zones r.zone ≡ b → next ≡ with_row t (cond b (row_at part e r.zone) None) now
    → IsOnTheWay t e (is_both zones (r ∷ rest)) (is_both zones items) part old now → IsOnTheWay t e (is_both zones rest) (is_both zones items) part old next
way-among t e zones rest items part old now next r true h next_is way = way-next t e part r.zone now next next_is (is_both zones rest) (is_both zones (r ∷ rest)) (is_both zones items) old (both-in zones rest r h) way
way-among t e zones rest items part old now next r false h next_is way =
    subst (λ (rows : List Row). IsOnTheWay t e (is_both zones rest) (is_both zones items) part old rows) (sym next_is)
    (way_over t e (is_both zones rest) (is_both zones (r ∷ rest)) (is_both zones items) part old now (both-out zones rest r h) way)

pub cut_at : (rows : List Row) (i : ℕ) (r : Row) → i < length rows → r ≡ get_or rows i r → drop i rows ≡ r ∷ drop (i + 1) rows
cut_at rows i r within is =
    let next : suc i ≡ i + 1 = omega arith in
    drop-cons rows i r within ∙ ap (λ (x : Row). x ∷ drop (suc i) rows) (sym is) ∙ ap (λ (k : ℕ). r ∷ drop k rows) next

pub drop_all : (rows : List Row) (i : ℕ) → length rows ≤ i → drop i rows ≡ []
drop_all [] zero le = refl
drop_all [] (suc i) le = refl
drop_all (r ∷ rows) zero le = absurd (omega (arith, le))
drop_all (r ∷ rows) (suc i) le = drop_all rows i (omega (arith, le))

zone_there : (part : List Row) (e : Event) (z : Place) (t : ℕ) (o : Option Row) → row_at part e z ≡ o → lives t o ≡ true → has_zone (zones_of part) z ≡ true
zone_there part e z t None is h = cc
zone_there part e z t (Some r) is h =
    let found = find_in (at_key e z) part r is in
    let zone_is : r.zone ≡ z = (at_key-parts e z r found.1).1 in
    any_mapped (λ (x : Row). x.zone) (is_at (by_place z)) part
    ∙ in_any (λ (x : Row). is_at (by_place z) x.zone) part r found.0 (subst (λ (y : Place). is_at (by_place z) y ≡ true) (sym zone_is) (at_own by_place by_place_total by_place_ties z))

pub way-done : (t : ℕ) (e : Event) (zones : List Place) (rest items part old now : List Row) → rest ≡ [] → items ≡ part → IsOnTheWay t e (is_both zones rest) (is_both zones items) part old now → IsLive t e (has_zone zones) part old now
way-done t e zones rest items part old now none are way = record {
  in_order = way.in_order;
  other = way.other;
  own = λ z.
      let gone : is_both zones rest z ≡ false = ap (λ (rows : List Row). is_both zones rows z) none ∙ and_false (has_zone zones z) in
      let all : is_both zones items z ≡ is_both zones part z = ap (λ (rows : List Row). is_both zones rows z) are in
      sym (ap (λ (b : Bool). cond (b && lives t (row_at part e z)) (row_at part e z) (row_at now e z)) gone)
      ∙ way.own z
      ∙ ap (λ (b : Bool). cond (b && lives t (row_at part e z)) (row_at part e z) (row_at old e z)) all
      ∙ by_live z (lives t (row_at part e z)) refl;
}
  where
    by_live : (z : Place) (l : Bool) → lives t (row_at part e z) ≡ l → cond (is_both zones part z && l) (row_at part e z) (row_at old e z) ≡ cond (has_zone zones z && l) (row_at part e z) (row_at old e z)
    by_live z true h =
        ap (λ (b : Bool). cond ((has_zone zones z && b) && true) (row_at part e z) (row_at old e z)) (zone_there part e z t (row_at part e z) refl h)
        ∙ ap (λ (b : Bool). cond (b && true) (row_at part e z) (row_at old e z)) (and_true (has_zone zones z))
    by_live z false h = ap (λ (b : Bool). cond b (row_at part e z) (row_at old e z)) (and_false (is_both zones part z) ∙ sym (and_false (has_zone zones z)))

-- events one after another

-- the live rows of the events that are left come over the rows so far as those of all do over none
pub record AreOnTheWay (rows : List Row) (t : ℕ) (zones : List Place) (rest events : List Event) (now : List Row) : Type 0 where
  pub in_order : IsStrictlySortedBy by_key [] → IsStrictlySortedBy by_key now
  pub found : (d : Event) (z : Place) → cond (list_any (is_at (by_event d)) rest && has_zone zones z && lives t (row_at rows d z)) (row_at rows d z) (row_at now d z) ≡ cond (list_any (is_at (by_event d)) events && has_zone zones z && lives t (row_at rows d z)) (row_at rows d z) None

pub events-begun : (rows : List Row) (t : ℕ) (zones : List Place) (rest events : List Event) (now : List Row) → rest ≡ events → now ≡ [] → AreOnTheWay rows t zones rest events now
events-begun rows t zones rest events now rest_is now_is = record {
  in_order = λ up. subst (λ (xs : List Row). IsStrictlySortedBy by_key xs) (sym now_is) up;
  found = λ d z. λ i. cond (list_any (is_at (by_event d)) (rest_is i) && has_zone zones z && lives t (row_at rows d z)) (row_at rows d z) (row_at (now_is i) d z);
}

event_joined : (r h l : Bool) (p c : Option Row) → cond (r && h && l) p (cond (h && l) p c) ≡ cond ((true || r) && h && l) p c
event_joined true h l p c = twice (h && l)
  where
    twice : (b : Bool) → cond b p (cond b p c) ≡ cond b p c
    twice true = refl
    twice false = refl
event_joined false h l p c = refl

module _ (rows : List Row) (t : ℕ) (zones : List Place) (rest events : List Event) (e : Event) (part now next : List Row) (of : AreRowsOf rows e part) (live : IsLive t e (has_zone zones) part now next) where
  abbrev Next : Event → Place → Bool → Type 0
  Next d z b = cond (list_any (is_at (by_event d)) rest && has_zone zones z && lives t (row_at rows d z)) (row_at rows d z) (row_at next d z) ≡ cond ((b || list_any (is_at (by_event d)) rest) && has_zone zones z && lives t (row_at rows d z)) (row_at rows d z) (row_at now d z)

  own_next : (z : Place) → Next e z true
  own_next z =
      let found : row_at part e z ≡ row_at rows e z = sym (of.found z) in
      ap (λ (o : Option Row). cond (list_any (is_at (by_event e)) rest && has_zone zones z && lives t (row_at rows e z)) (row_at rows e z) o)
      (live.own z ∙ (λ i. cond (has_zone zones z && lives t (found i)) (found i) (row_at now e z)))
      ∙ event_joined (list_any (is_at (by_event e)) rest) (has_zone zones z) (lives t (row_at rows e z)) (row_at rows e z) (row_at now e z)

  event_next : (d : Event) (z : Place) (b : Bool) → is_at (by_event d) e ≡ b → Next d z b
  event_next d z true at = subst (λ (x : Event). Next x z true) (sym (at_one by_event by_event_total by_event_ties d e at)) (own_next z)
  event_next d z false at =
      ap (λ (o : Option Row). cond (list_any (is_at (by_event d)) rest && has_zone zones z && lives t (row_at rows d z)) (row_at rows d z) o)
      (live.other d z (sym (event_by (by_event d e) d e refl) ∙ at))

  pub events-next : AreOnTheWay rows t zones (e ∷ rest) events now → AreOnTheWay rows t zones rest events next
  events-next way = record {
    in_order = λ up. live.in_order (way.in_order up);
    found = λ d z. event_next d z (is_at (by_event d) e) refl ∙ way.found d z;
  }

-- what they tell of a UPG line

part_of : (b : Bool) (o : Option Row) (r : Row) → cond b o None ≡ Some r → o ≡ Some r
part_of true o r h = h
part_of false o r h = cc

has_rank : (o low : Rank) → is_above o low ≡ true → is_none o ≡ false
has_rank None low h = cc
has_rank (Some f) low h = refl

min_first : (a b : ℕ) (c : Bool) → nat_le a b ≡ c → cond c a b ≤ a
min_first a b true h = le_itself a
  where
    le_itself : (n : ℕ) → n ≤ n
    le_itself n = omega arith
min_first a b false h = by_test a b h
  where
    by_test : (a b : ℕ) → nat_le a b ≡ false → b ≤ a
    by_test a b h = grind (arith, nat_tests)

min_second : (a b : ℕ) (c : Bool) → nat_le a b ≡ c → cond c a b ≤ b
min_second a b true h = by_test a b h
  where
    by_test : (a b : ℕ) → nat_le a b ≡ true → a ≤ b
    by_test a b h = grind (arith, nat_tests)
min_second a b false h = le_itself b
  where
    le_itself : (n : ℕ) → n ≤ n
    le_itself n = omega arith

le_both : (a b c : ℕ) → a ≤ b → b ≤ c → a ≤ c
le_both a b c p q = omega (arith, p, q)

le_same : (n : ℕ) → n ≤ n
le_same n = omega arith

module _ (rows : List Row) (t : ℕ) where
  -- what was found is not less than the least
  least_kept : (lines : List Line) (a : ℕ) → (m : ℕ) × (least_of rows t (Some a) lines ≡ Some m) × (m ≤ a)
  least_kept [] a = (a, refl, le_same a)
  least_kept (line ∷ lines) a = by_need (needed rows t line) (λ b. least_kept lines b)
    where
      by_need : (o : Option ℕ) → ((b : ℕ) → (m : ℕ) × (least_of rows t (Some b) lines ≡ Some m) × (m ≤ b)) → (m : ℕ) × (least_of rows t (lesser (Some a) o) lines ≡ Some m) × (m ≤ a)
      by_need None kept = kept a
      by_need (Some b) kept = let w = kept (cond (nat_le a b) a b) in (w.0, w.1, le_both w.0 (cond (nat_le a b) a b) a w.2 (min_first a b (nat_le a b) refl))

  -- nor is what a line needs
  least_in : (lines : List Line) (found : Option ℕ) (line : Line) (b : ℕ) → IsIn line lines → needed rows t line ≡ Some b → (m : ℕ) × (least_of rows t found lines ≡ Some m) × (m ≤ b)
  least_in [] found line b there is = absurd there
  least_in (l ∷ lines) found line b (inl same) is = subst (λ (o : Option ℕ). (m : ℕ) × (least_of rows t (lesser found o) lines ≡ Some m) × (m ≤ b)) (sym (ap (λ (x : Line). needed rows t x) same ∙ is)) (by_found found)
    where
      by_found : (o : Option ℕ) → (m : ℕ) × (least_of rows t (lesser o (Some b)) lines ≡ Some m) × (m ≤ b)
      by_found None = least_kept lines b
      by_found (Some a) = let w = least_kept lines (cond (nat_le a b) a b) in (w.0, w.1, le_both w.0 (cond (nat_le a b) a b) b w.2 (min_second a b (nat_le a b) refl))
  least_in (l ∷ lines) found line b (inr there) is = least_in lines (lesser found (needed rows t l)) line b there is

ends_behind : (a : End) (m n : ℕ) → m ≤ n → ends_after a n ≡ true → ends_after a m ≡ true
ends_behind (end.At k) m n le h = grind (arith, nat_tests)
ends_behind end.Ufn m n le h = refl

ends_later : (a : End) (t begin : ℕ) (c : Bool) → ends_after a t ≡ true → ends_after a begin ≡ true → ends_after a (cond c begin t) ≡ true
ends_later a t begin true h g = g
ends_later a t begin false h g = h

module _ (es : List (Event × List Row)) (keys : List Reach) (t from : ℕ) (lines : List Line) (zones : List Place) (ranks : List Rank) (events : List Event) (higher : List Row)
    (held : AreHeld es) (reaches : Reaches keys es) (zones_are : Tells upgrades zone_said zones lines) (ranks_are : Tells upgrades rank_of_line ranks lines)
    (events_are : AreTold keys zones from ranks events) where
  -- a row that is live and overlaps the line's ends behind the minute
  still_live : from ≡ unwrap_or (least_of (told es) t None lines) t → (line : Line) → IsIn line lines → upgrades line ≡ true → (own r : Row) → row_at (told es) line.event line.zone ≡ Some own
      → is_live t r ≡ true → overlaps r.period own.period ≡ true → is_live from r ≡ true
  still_live from_is line there up own r found live over =
      let b = or_later t own.period.begin in
      let need : needed (told es) t line ≡ Some b = rw (up, found) refl in
      let w = least_in (told es) t lines None line b there need in
      let is : from ≡ w.0 = from_is ∙ ap (λ (o : Option ℕ). unwrap_or o t) w.1 in
      let l = and_parts (not r.ended) _ live in
      let o = and_parts (ends_after own.period.end r.period.begin) _ over in
      let behind : ends_after r.period.end from ≡ true = ap (λ (n : ℕ). ends_after r.period.end n) is ∙ ends_behind r.period.end w.0 b w.2 (ends_later r.period.end t own.period.begin (nat_le t own.period.begin) l.1 o.1) in
      rw (l.0, behind) refl

  over_line : from ≡ unwrap_or (least_of (told es) t None lines) t → AreGathered (told es) from zones events higher → (line : Line) → IsIn line lines → upgrades line ≡ true
      → (own : Row) → row_at (told es) line.event line.zone ≡ Some own → AreHigher (told es) t own (rank_of_line line) higher
  over_line from_is gathered line there up own own_is = record {
    in_order = gathered.in_order none-sorted;
    part = λ e y r is. part_of (list_any (is_at (by_event e)) events && has_zone zones y && lives from (row_at (told es) e y)) (row_at (told es) e y) r (sym (gathered.found e y) ∙ is);
    all = λ e r high is live over.
        let zone_is : own.zone ≡ line.zone = (row-own (told es) line.event line.zone own own_is).1 in
        let parse_zone : has_zone zones own.zone ≡ true =
        ap (has_zone zones) zone_is ∙ zones_are (is_at (by_place line.zone)) ∙ in_any (λ (l : Line). upgrades l && is_at (by_place line.zone) l.zone) lines line there (rw (up, at_own by_place by_place_total by_place_ties line.zone) refl) in
        let ranked : is_above_any ranks e ≡ true = ranks_are (λ low. is_above (rank_of e) low) ∙ in_any (λ (l : Line). upgrades l && is_above (rank_of e) (rank_of_line l)) lines line there (rw (up, high) refl) in
        let still = still_live from_is line there up own r own_is live over in
        let parse_event : list_any (is_at (by_event e)) events ≡ true = found-among es keys zones from ranks events e own.zone r held reaches events_are parse_zone is still ranked (has_rank (rank_of e) (rank_of_line line) high) in
        let lives_is : lives from (row_at (told es) e own.zone) ≡ true = ap (lives from) is ∙ still in
        gathered.found e own.zone ∙ rw (parse_event, parse_zone, lives_is) is;
  }

  over_lines : from ≡ unwrap_or (least_of (told es) t None lines) t → AreGathered (told es) from zones events higher → AreOver (told es) t lines higher
  over_lines from_is gathered =
      all_of (λ (line : Line). upgrades line ≡ true → (own : Row) → row_at (told es) line.event line.zone ≡ Some own → AreHigher (told es) t own (rank_of_line line) higher) lines (over_line from_is gathered)

  pub gathered-over : (rows : List Row) → told es ≡ rows → from ≡ unwrap_or (least_of rows t None lines) t → AreGathered rows from zones events higher → AreOver rows t lines higher
  gathered-over rows is = subst (λ (all : List Row). from ≡ unwrap_or (least_of all t None lines) t → AreGathered all from zones events higher → AreOver all t lines higher) is over_lines

pub of-ok : {A E : Type 0} (P Q : A → Type 0) (result : Result A E) → ((a : A) → P a → Q a) → IfOk result P → IfOk result Q
of-ok P Q (Ok a) each is = each a is
of-ok P Q (Err x) each is = tt
