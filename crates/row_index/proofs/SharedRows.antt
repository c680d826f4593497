-- Lives at zones, and rows of one event with such lives: what is found among them, and what one more leaves.
use Rattle.std.proofs.Common.{◌≡◌, ◌∙◌, ℕ, zero, suc, ◌+◌, ◌==◌, ◌<◌, ◌≤◌, List, [], ◌∷◌, ◌++◌, Bool, true, false, cond, map, length, length-append, get_or, take, Ordering, Less, Equal, Greater, Option, Some, None, refl, ap, sym, subst, arith}
use Rattle.std.specs.Prelude.{◌&&◌, option_map, slice_get, is_some}
use Rattle.std.specs.Bool.{beq}
use Rattle.std.specs.Option.{option_eq}
use Rattle.std.proofs.Math.Seq.{get_or-append_seam}
use Rattle.std.proofs.lemmas.List.{get_or_append_left}
use Rattle.std.proofs.lemmas.Bool.{and_parts}
use Rattle.std.proofs.lemmas.Bool.Decides.{nat_tests}
use Rattle.std.proofs.lemmas.Option.{get_or_from_slice_get, slice_get_read}
use Rattle.std.specs.BTreeMap.{insert_entry, is_at}
use Rattle.std.specs.List.{AllByRecursion}
use Rattle.std.specs.List.Sorted.{IsStrictlySortedBy}
use Rattle.std.specs.Map.{keys_of, lookup, values_of}
use Rattle.std.specs.Ordering.{match_ordering, ordering_reverse}
use Rattle.hazard_types.specs.Places.{Place, by_place}
use Rattle.hazard_types.specs.Same.{same_event}
use Rattle.hazard_types.specs.declared.hazard.Event.{Event}
use Rattle.hazard_types.specs.declared.line.Row.{Row}
use Rattle.hazard_types.proofs.Equality.{event_one, flood_one, period_one}
use Rattle.hazard_types.proofs.OrderLaws.{by_place_total, by_place_ties}
use Rattle.event_life.specs.Products.{life_of, row_at}
use Rattle.event_life.proofs.Puts.{at_key, at_key-parts}
use Rattle.event_life.specs.declared.life.Life.{Life}
use Rattle.event_life.specs.contracts.life.LifePartialEq.TheImpl as life
use Rattle.hazard_types.specs.contracts.line.FloodPartialEq.TheImpl as flood
use Rattle.hazard_types.specs.contracts.period.PeriodPartialEq.TheImpl as period
use Rattle.hazard_types.specs.declared.line.Flood.{Flood}
use Rattle.row_index.specs.Sharing.{no_life, life_at, is_life, lives_told, lives_of, row_with, rows_with, rows_told, same_place, AreShared, HaveEvent, IsPlaced, IsThere}
use Rattle.row_index.specs.Zoning.{AreOf, AreZoned, is_first_of}
use Rattle.row_index.proofs.Lists.{ascending-put}
use Rattle.row_index.proofs.Tests.{at_one}
use Rattle.row_index.proofs.Zoned.{own_found}

-- values that are made of the zone and of what stands there

module _ {V W : Type 0} (f : Place → V → W) where
  abbrev pub made : List (Place × V) → List (Place × W)
  made es = map (λ (e : Place × V). (e.0, f e.0 e.1)) es

  pub made-keys : (es : List (Place × V)) → keys_of (made es) ≡ keys_of es
  made-keys [] = refl
  made-keys (e ∷ es) = ap (λ (zs : List Place). e.0 ∷ zs) (made-keys es)

  found_first : (z : Place) (e : Place × V) (b : Bool) (o : Option V) (p : Option W) → is_at (by_place z) e.0 ≡ b → p ≡ option_map (f z) o → cond b (Some (f e.0 e.1)) p ≡ option_map (f z) (cond b (Some e.1) o)
  found_first z e true o p h later = ap (λ (q : Place). Some (f q e.1)) (sym (at_one by_place by_place_total by_place_ties z e.0 h))
  found_first z e false o p h later = later

  pub made-found : (z : Place) (es : List (Place × V)) → lookup (is_at (by_place z)) (made es) ≡ option_map (f z) (lookup (is_at (by_place z)) es)
  made-found z [] = refl
  made-found z (e ∷ es) = found_first z e (is_at (by_place z) e.0) (lookup (is_at (by_place z)) es) (lookup (is_at (by_place z)) (made es)) refl (made-found z es)

  put_first : (z : Place) (v : V) (e : Place × V) (es tail : List (Place × V)) (o : Ordering) → by_place z e.0 ≡ o → made tail ≡ insert_entry by_place (made es) z (f z v)
      → made (match_ordering o ((z, v) ∷ e ∷ es) ((e.0, v) ∷ es) (e ∷ tail)) ≡ match_ordering o ((z, f z v) ∷ made (e ∷ es)) ((e.0, f z v) ∷ made es) ((e.0, f e.0 e.1) ∷ insert_entry by_place (made es) z (f z v))
  put_first z v e es tail Less h later = refl
  put_first z v e es tail Equal h later = ap (λ (q : Place). (e.0, f q v) ∷ made es) (sym (by_place_ties z e.0 h))
  put_first z v e es tail Greater h later = ap (λ (rest : List (Place × W)). (e.0, f e.0 e.1) ∷ rest) later

  pub made-put : (z : Place) (v : V) (es : List (Place × V)) → made (insert_entry by_place es z v) ≡ insert_entry by_place (made es) z (f z v)
  made-put z v [] = refl
  made-put z v (e ∷ es) = put_first z v e es (insert_entry by_place es z v) (by_place z e.0) refl (made-put z v es)

-- places that are there

all_put_first : {V : Type 0} (P : V → Type 0) (z : Place) (v : V) (e : Place × V) (es tail : List (Place × V)) (o : Ordering) → P v → AllByRecursion (λ (s : Place × V). P s.1) (e ∷ es) → AllByRecursion (λ (s : Place × V). P s.1) tail
    → AllByRecursion (λ (s : Place × V). P s.1) (match_ordering o ((z, v) ∷ e ∷ es) ((e.0, v) ∷ es) (e ∷ tail))
all_put_first P z v e es tail Less p all more = (p, all)
all_put_first P z v e es tail Equal p all more = (p, all.1)
all_put_first P z v e es tail Greater p all more = (all.0, more)

all-put : {V : Type 0} (P : V → Type 0) (z : Place) (v : V) (es : List (Place × V)) → P v → AllByRecursion (λ (s : Place × V). P s.1) es → AllByRecursion (λ (s : Place × V). P s.1) (insert_entry by_place es z v)
all-put P z v [] p all = (p, tt)
all-put P z v (e ∷ es) p all = all_put_first P z v e es (insert_entry by_place es z v) (by_place z e.0) p all (all-put P z v es p all.1)

abbrev AreWithin : ℕ → List (Place × ℕ) → Type 0
AreWithin n seats = AllByRecursion (λ (s : Place × ℕ). s.1 < n) seats

within_more : (m n : ℕ) (seats : List (Place × ℕ)) → m ≤ n → AreWithin m seats → AreWithin n seats
within_more m n [] le all = tt
within_more m n (s ∷ seats) le all = let first : s.1 < m = all.0 in (omega (arith, first, le), within_more m n seats le all.1)

there_first : (lives : List Life) (s : Place × ℕ) (b : Bool) (o : Option ℕ) → s.1 < length lives → IsThere lives o → IsThere lives (cond b (Some s.1) o)
there_first lives s true o first later = first
there_first lives s false o first later = later

-- a place that a zone names
pub found-there : (lives : List Life) (seats : List (Place × ℕ)) (z : Place) → AreWithin (length lives) seats → IsThere lives (lookup (is_at (by_place z)) seats)
found-there lives [] z all = tt
found-there lives (s ∷ seats) z all = there_first lives s (is_at (by_place z) s.0) (lookup (is_at (by_place z)) seats) all.0 (found-there lives seats z all.1)

pub within-at : (lives : List Life) (seats : List (Place × ℕ)) (i : ℕ) (d : Place × ℕ) → AreWithin (length lives) seats → i < length seats → (get_or seats i d).1 < length lives
within-at lives [] i d all lt = absurd (omega arith)
within-at lives (s ∷ seats) zero d all lt = all.0
within-at lives (s ∷ seats) (suc i) d all lt = within-at lives seats i d all.1 (omega arith)

-- a life that is read
pub life-read : (lives : List Life) (i : ℕ) (l : Life) → i < length lives → l ≡ get_or lives i l → life_at lives i ≡ l
life-read lives i l lt is = get_or_from_slice_get lives i l no_life (slice_get_read lives (length lives) i l refl lt is)

-- what the derived `==` of lives tells

flood_same : (a b : Option Flood) → option_eq flood.eq-value.it a b ≡ true → a ≡ b
flood_same None None h = refl
flood_same (Some x) (Some y) h = ap (λ (z : Flood). Some z) (flood_one x y h)
flood_same (Some x) None h = cc
flood_same None (Some y) h = cc

ended_same : (a b : Bool) → beq a b ≡ true → a ≡ b
ended_same true true h = refl
ended_same false false h = refl
ended_same true false h = cc
ended_same false true h = cc

pub life_one : (a b : Life) → life.eq-value.it a b ≡ true → a ≡ b
life_one a b h =
    let p = and_parts (period.eq-value.it a.period b.period) _ h in
    let r = and_parts (option_eq flood.eq-value.it a.flood b.flood) _ p.1 in
    let period_is = period_one a.period b.period p.0 in
    let flood_is = flood_same a.flood b.flood r.0 in
    let ended_is = ended_same a.ended b.ended r.1 in
    λ i. record { period = period_is i; flood = flood_is i; ended = ended_is i }

-- places

pub places_one : (a b : Option ℕ) → same_place a b ≡ true → a ≡ b
places_one None None h = refl
places_one (Some i) (Some k) h = ap (λ (n : ℕ). Some n) (number_one i k h)
  where
    number_one : (m n : ℕ) → (m == n) ≡ true → m ≡ n
    number_one m n h = grind (arith, nat_tests)
places_one (Some i) None h = cc
places_one None (Some k) h = cc

-- a life at its place

pub same_length : (lives : List Life) → length lives ≤ length lives
same_length lives = omega arith

there_at : (lives : List Life) (i : ℕ) (x : Life) → slice_get lives i ≡ Some x → i < length lives
there_at [] i x h = cc
there_at (y ∷ ys) zero x h = omega arith
there_at (y ∷ ys) (suc i) x h = let more = there_at ys i x h in omega (arith, more)

placed_at : (lives : List Life) (i : ℕ) (l : Life) (o : Option Life) → slice_get lives i ≡ o → is_life o l ≡ true → IsPlaced lives lives i l
placed_at lives i l None at h = cc
placed_at lives i l (Some x) at h = record {
  stay = λ j lt. refl;
  longer = same_length lives;
  within = there_at lives i x at;
  here = get_or_from_slice_get lives i x no_life at ∙ life_one x l h;
}

pub placed-there : (lives : List Life) (i : ℕ) (l : Life) → is_life (slice_get lives i) l ≡ true → IsPlaced lives lives i l
placed-there lives i l h = placed_at lives i l (slice_get lives i) refl h

pub placed-behind : (lives : List Life) (l : Life) → IsPlaced lives (lives ++ l ∷ []) (length lives) l
placed-behind lives l = let longer = length-append lives (l ∷ []) in record {
  stay = λ j lt. get_or_append_left lives (l ∷ []) no_life j lt;
  longer = omega (arith, longer);
  within = omega (arith, longer);
  here = get_or-append_seam lives l [] no_life;
}

-- a life that is set

module _ (before after : List Life) (place : ℕ) (l : Life) (placed : IsPlaced before after place l) where
  pub told_stay : (seats : List (Place × ℕ)) → AreWithin (length before) seats → lives_told after seats ≡ lives_told before seats
  told_stay [] all = refl
  told_stay (s ∷ seats) all = λ i. (s.0, placed.stay s.1 all.0 i) ∷ told_stay seats all.1 i

  pub told-put : (z : Place) (seats : List (Place × ℕ)) → AreWithin (length before) seats → lives_told after (insert_entry by_place seats z place) ≡ insert_entry by_place (lives_told before seats) z l
  told-put z seats all =
      made-put (λ (q : Place) (i : ℕ). life_at after i) z place seats
      ∙ (λ i. insert_entry by_place (told_stay seats all i) z (placed.here i))

  pub told-found : (z : Place) (seats : List (Place × ℕ)) → AreWithin (length before) seats → option_map (λ (i : ℕ). life_at after i) (lookup (is_at (by_place z)) seats) ≡ lookup (is_at (by_place z)) (lives_told before seats)
  told-found z seats all = sym (made-found (λ (q : Place) (i : ℕ). life_at after i) z seats) ∙ ap (λ (es : List (Place × Life)). lookup (is_at (by_place z)) es) (told_stay seats all)

  pub shared-put : (z : Place) (seats : List (Place × ℕ)) → AreShared before seats → AreShared after (insert_entry by_place seats z place)
  shared-put z seats are = record {
    there = all-put (λ (n : ℕ). n < length after) z place seats placed.within (within_more (length before) (length after) seats placed.longer are.there);
    ascending = ascending-put by_place by_place_total by_place_ties z seats place are.ascending;
  }

  there_still : (o : Option ℕ) → IsThere before o → IsThere after o
  there_still None h = tt
  there_still (Some i) h = let longer = placed.longer in let first : i < length before = h in omega (arith, longer, first)

  pub found-still : (z : Place) (seats : List (Place × ℕ)) → AreWithin (length before) seats → IsThere after (lookup (is_at (by_place z)) seats)
  found-still z seats all = there_still (lookup (is_at (by_place z)) seats) (found-there before seats z all)

mapped_twice : {A B C : Type 0} (f : A → B) (g : B → C) (o : Option A) → option_map (λ (x : A). g (f x)) o ≡ option_map g (option_map f o)
mapped_twice f g None = refl
mapped_twice f g (Some x) = refl

-- the row that was there
pub row-before : (e : Event) (z : Place) (before after : List Life) (place : ℕ) (l : Life) (seats : List (Place × ℕ)) → IsPlaced before after place l → AreWithin (length before) seats
    → option_map (λ (i : ℕ). row_with e z (life_at after i)) (lookup (is_at (by_place z)) seats) ≡ option_map (row_with e z) (lookup (is_at (by_place z)) (lives_told before seats))
row-before e z before after place l seats placed all =
    mapped_twice (λ (i : ℕ). life_at after i) (row_with e z) (lookup (is_at (by_place z)) seats)
    ∙ ap (λ (o : Option Life). option_map (row_with e z) o) (told-found before after place l placed z seats all)

-- the row that is found
pub row-found : (e : Event) (z : Place) (lives : List Life) (seats : List (Place × ℕ))
    → option_map (λ (i : ℕ). row_with e z (life_at lives i)) (lookup (is_at (by_place z)) seats) ≡ option_map (row_with e z) (lookup (is_at (by_place z)) (lives_told lives seats))
row-found e z lives seats =
    mapped_twice (λ (i : ℕ). life_at lives i) (row_with e z) (lookup (is_at (by_place z)) seats)
    ∙ ap (λ (o : Option Life). option_map (row_with e z) o) (sym (made-found (λ (q : Place) (i : ℕ). life_at lives i) z seats))

told-keys : (lives : List Life) (seats : List (Place × ℕ)) → keys_of (lives_told lives seats) ≡ keys_of seats
told-keys lives seats = made-keys (λ (q : Place) (i : ℕ). life_at lives i) seats

pub told-ascending : (lives : List Life) (seats : List (Place × ℕ)) → AreShared lives seats → IsStrictlySortedBy by_place (keys_of (lives_told lives seats))
told-ascending lives seats are = subst (λ (zs : List Place). IsStrictlySortedBy by_place zs) (sym (told-keys lives seats)) are.ascending

-- what a zone names

pub there-found : (lives : List Life) (seats : List (Place × ℕ)) (z : Place) (o : Option ℕ) → AreShared lives seats → o ≡ lookup (is_at (by_place z)) seats → IsThere lives o
there-found lives seats z o are found = subst (λ (p : Option ℕ). IsThere lives p) (sym found) (found-there lives seats z are.there)

pub found_life : (lives : List Life) (seats : List (Place × ℕ)) (z : Place) (o : Option ℕ) → o ≡ lookup (is_at (by_place z)) seats → option_map (λ (i : ℕ). life_at lives i) o ≡ lookup (is_at (by_place z)) (lives_told lives seats)
found_life lives seats z o found =
    ap (λ (p : Option ℕ). option_map (λ (i : ℕ). life_at lives i) p) found ∙ sym (made-found (λ (q : Place) (i : ℕ). life_at lives i) z seats)

pub life-found : (lives : List Life) (seats : List (Place × ℕ)) (z : Place) (i : ℕ) (l : Life) → AreShared lives seats → Some i ≡ lookup (is_at (by_place z)) seats → l ≡ get_or lives i l → Some l ≡ lookup (is_at (by_place z)) (lives_told lives seats)
life-found lives seats z i l are found is =
    ap (λ (x : Life). Some x) (sym (life-read lives i l (there-found lives seats z (Some i) are found) is)) ∙ found_life lives seats z (Some i) found

pub none-found : (lives : List Life) (seats : List (Place × ℕ)) (z : Place) → None ≡ lookup (is_at (by_place z)) seats → None ≡ lookup (is_at (by_place z)) (lives_told lives seats)
none-found lives seats z found = found_life lives seats z None found

-- there is a first exactly where there is a first seat
pub told-first : (lives : List Life) (seats : List (Place × ℕ)) → is_some (option_map (λ (s : Place × ℕ). s.1) (slice_get seats 0)) ≡ is_some (slice_get (lives_told lives seats) 0)
told-first lives [] = refl
told-first lives (s ∷ seats) = refl

pub none-shared : (lives : List Life) (seats : List (Place × ℕ)) → seats ≡ [] → AreShared lives seats
unfolding IsStrictlySortedBy
none-shared lives seats none = rw none (record { there = tt; ascending = tt })

-- rows of one event

rows_zoned : (e : Event) (lives : List (Place × Life)) → AreZoned (rows_with e lives)
rows_zoned e [] = tt
rows_zoned e (s ∷ lives) = (refl, rows_zoned e lives)

rows_own : (e : Event) (lives : List (Place × Life)) → AreOf e (values_of (rows_with e lives))
rows_own e [] = tt
rows_own e (s ∷ lives) = (refl, rows_own e lives)

own-row : (own e : Event) (z : Place) (lives : List (Place × Life)) → same_event own e ≡ true → option_map (row_with e z) (lookup (is_at (by_place z)) lives) ≡ row_at (values_of (rows_with own lives)) e z
own-row own e z lives same =
    subst (λ (d : Event). option_map (row_with e z) (lookup (is_at (by_place z)) lives) ≡ row_at (values_of (rows_with d lives)) e z) (sym (event_one own e same))
    (sym (made-found (row_with e) z lives) ∙ own_found e z (rows_with e lives) (rows_zoned e lives) (rows_own e lives))

other-row : (own e : Event) (z : Place) (lives : List (Place × Life)) → same_event own e ≡ false → None ≡ row_at (values_of (rows_with own lives)) e z
other-row own e z [] other = refl
other-row own e z (s ∷ lives) other = rw other (other-row own e z lives other)

pub first-own : (own e : Event) (lives : List (Place × Life)) → (is_some (slice_get lives 0) && same_event own e) ≡ is_first_of (option_map (λ (x : Place × Row). x.1) (slice_get (rows_with own lives) 0)) e
first-own own e [] = refl
first-own own e (s ∷ lives) = refl

pub told-own : (event : Option Event) (d : Event) (lives : List (Place × Life)) → HaveEvent event lives → AreOf d (values_of (rows_told event lives)) → rows_told event lives ≡ rows_with d lives
told-own None d lives none own = sym (ap (λ (ls : List (Place × Life)). rows_with d ls) none)
told-own (Some e) d [] have own = refl
told-own (Some e) d (s ∷ lives) have own = ap (λ (x : Event). rows_with x (s ∷ lives)) own.0

pub rows-put : (event : Option Event) (row : Row) (lives : List (Place × Life)) → HaveEvent event lives → AreOf row.event (values_of (rows_told event lives))
    → rows_with row.event (insert_entry by_place lives row.zone (life_of row)) ≡ insert_entry by_place (rows_told event lives) row.zone row
rows-put event row lives have own =
    made-put (row_with row.event) row.zone (life_of row) lives
    ∙ ap (λ (es : List (Place × Row)). insert_entry by_place es row.zone row) (sym (told-own event row.event lives have own))

pub rows-before : (event : Option Event) (row : Row) (lives : List (Place × Life)) → HaveEvent event lives → AreOf row.event (values_of (rows_told event lives))
    → option_map (row_with row.event row.zone) (lookup (is_at (by_place row.zone)) lives) ≡ lookup (is_at (by_place row.zone)) (rows_told event lives)
rows-before event row lives have own =
    sym (made-found (row_with row.event) row.zone lives)
    ∙ ap (λ (es : List (Place × Row)). lookup (is_at (by_place row.zone)) es) (sym (told-own event row.event lives have own))

-- zones and lives that are taken from rows

pub lives-back : (e : Event) (lives : List (Place × Life)) → lives_of (values_of (rows_with e lives)) ≡ lives
lives-back e [] = refl
lives-back e (s ∷ lives) = ap (λ (rest : List (Place × Life)). s ∷ rest) (lives-back e lives)

key_at : {V : Type 0} (P : Place → Type 0) (es : List (Place × V)) (i : ℕ) (d : Place × V) → AllByRecursion P (keys_of es) → i < length es → P (get_or es i d).0
key_at P [] i d all lt = absurd (omega arith)
key_at P (e ∷ es) zero d all lt = all.0
key_at P (e ∷ es) (suc i) d all lt = key_at P es i d all.1 (omega arith)

behind_is : (p z : Place) → by_place p z ≡ Less → by_place z p ≡ Greater
behind_is p z h = by_place_total.antisymm z p ∙ ap ordering_reverse h

-- entries in order, one after another
taken_more : {V : Type 0} (es : List (Place × V)) (i : ℕ) (d : Place × V) → IsStrictlySortedBy by_place (keys_of es) → i < length es → insert_entry by_place (take i es) (get_or es i d).0 (get_or es i d).1 ≡ take (suc i) es
unfolding IsStrictlySortedBy
taken_more [] i d up lt = absurd (omega arith)
taken_more (e ∷ es) zero d up lt = refl
taken_more {V} (e ∷ es) (suc i) d up lt =
    let less : by_place e.0 (get_or es i d).0 ≡ Less = key_at (λ (q : Place). by_place e.0 q ≡ Less) es i d up.0 (omega arith) in
    rw (behind_is e.0 (get_or es i d).0 less) (ap (λ (rest : List (Place × V)). e ∷ rest) (taken_more es i d up.1 (omega arith)))

rows_length : (rows : List Row) → length (lives_of rows) ≡ length rows
rows_length [] = refl
rows_length (r ∷ rows) = let later = rows_length rows in omega (arith, later)

rows_at : (rows : List Row) (i : ℕ) (d : Row) → get_or (lives_of rows) i (d.zone, life_of d) ≡ ((get_or rows i d).zone, life_of (get_or rows i d))
rows_at [] i d = refl
rows_at (r ∷ rows) zero d = refl
rows_at (r ∷ rows) (suc i) d = rows_at rows i d

-- one row more, where those so far were put in order
pub put-next : (rows : List Row) (i : ℕ) (row : Row) (before after : List (Place × Life)) → IsStrictlySortedBy by_place (keys_of (lives_of rows)) → i < length rows → row ≡ get_or rows i row
    → before ≡ take i (lives_of rows) → after ≡ insert_entry by_place before row.zone (life_of row) → after ≡ take (i + 1) (lives_of rows)
put-next rows i row before after up lt is before_is after_is =
    let long = rows_length rows in
    let next : suc i ≡ i + 1 = omega arith in
    let here : get_or (lives_of rows) i (row.zone, life_of row) ≡ (row.zone, life_of row) = rows_at rows i row ∙ ap (λ (r : Row). (r.zone, life_of r)) (sym is) in
    after_is
    ∙ (λ j. insert_entry by_place (before_is j) (sym here j).0 (sym here j).1)
    ∙ taken_more (lives_of rows) i (row.zone, life_of row) up (omega (arith, long, lt))
    ∙ ap (λ (k : ℕ). take k (lives_of rows)) next

-- a row is told by its event, its zone and its life

again_by : (e : Event) (z : Place) (r : Row) (o : Option Row) (b : Bool) → at_key e z r ≡ b → option_map (row_with e z) (option_map life_of o) ≡ o
    → option_map (row_with e z) (option_map life_of (cond b (Some r) o)) ≡ cond b (Some r) o
again_by e z r o true h later = let k = at_key-parts e z r h in λ i. Some (row_with (sym k.0 i) (sym k.1 i) (life_of r))
again_by e z r o false h later = later

pub row-again : (e : Event) (z : Place) (rows : List Row) → option_map (row_with e z) (option_map life_of (row_at rows e z)) ≡ row_at rows e z
row-again e z [] = refl
row-again e z (r ∷ rows) = again_by e z r (row_at rows e z) (at_key e z r) refl (row-again e z rows)

lives_again : (e : Event) (z : Place) (o : Option Life) → option_map life_of (option_map (row_with e z) o) ≡ o
lives_again e z None = refl
lives_again e z (Some l) = refl

pub own-life : (event : Option Event) (own e : Event) (z : Place) (lives : List (Place × Life)) → event ≡ Some own → same_event own e ≡ true
    → lookup (is_at (by_place z)) lives ≡ option_map life_of (row_at (values_of (rows_told event lives)) e z)
own-life event own e z lives is same =
    sym (lives_again e z (lookup (is_at (by_place z)) lives))
    ∙ ap (λ (o : Option Row). option_map life_of o) (own-row own e z lives same)
    ∙ ap (λ (o : Option Event). option_map life_of (row_at (values_of (rows_told o lives)) e z)) (sym is)

pub other-life : (event : Option Event) (own e : Event) (z : Place) (lives : List (Place × Life)) → event ≡ Some own → same_event own e ≡ false
    → None ≡ option_map life_of (row_at (values_of (rows_told event lives)) e z)
other-life event own e z lives is other =
    ap (λ (o : Option Row). option_map life_of o) (other-row own e z lives other)
    ∙ ap (λ (o : Option Event). option_map life_of (row_at (values_of (rows_told o lives)) e z)) (sym is)
