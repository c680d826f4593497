-- Zones that come to a life: their lives, the rows of an event there, and how many of these stand.
use Rattle.std.proofs.Common.{◌≡◌, ◌∙◌, ◌<◌, ◌+◌, ℕ, suc, List, [], ◌∷◌, Bool, drop, drop-cons, get_or, length, Option, refl, ap, sym, subst, arith}
use Rattle.std.specs.Prelude.{option_map}
use Rattle.std.specs.BTreeMap.{insert_entry, is_at}
use Rattle.std.specs.List.Sorted.{IsStrictlySortedBy}
use Rattle.std.specs.Map.{keys_of, lookup, values_of}
use Rattle.hazard_types.specs.Places.{Place, by_place}
use Rattle.hazard_types.specs.declared.hazard.Event.{Event}
use Rattle.hazard_types.specs.declared.line.Row.{Row}
use Rattle.hazard_types.proofs.OrderLaws.{by_place_total, by_place_ties}
use Rattle.event_life.specs.Products.{by_key}
use Rattle.event_life.specs.declared.life.Life.{Life}
use Rattle.event_life.proofs.Puts.{put-all, put-sorted}
use Rattle.row_index.specs.declared.standing.Before.{Before}
use Rattle.row_index.specs.declared.standing.Standing.{Standing}
use Rattle.row_index.specs.Runs.{rows_along}
use Rattle.row_index.specs.Sharing.{life_at, lives_put, lives_told, row_with, rows_put, rows_with, rows_told, AreShared, HaveEvent, IsPlaced}
use Rattle.row_index.specs.Standings.{restood, stands_so, AreEventRows, IsRunPut, AreCounts}
use Rattle.row_index.specs.Steps.{add_each}
use Rattle.row_index.specs.Tallies.{one, one_of, owed, passes, tally, times, AreTallied, IsTallied}
use Rattle.row_index.specs.Zoning.{AreOf, AreZoned}
use Rattle.row_index.proofs.EventRows.{of-first}
use Rattle.row_index.proofs.Lists.{ascending-put}
use Rattle.row_index.proofs.SharedRows.{found_life, made-put, same_length, shared-put, told-ascending, told-own, told-put, told_stay}
use Rattle.row_index.proofs.Stood.{stood-put}
use Rattle.row_index.proofs.Tallied.{entry-tally, rows-tally, times-next}
use Rattle.row_index.proofs.Zoned.{values-zoned, zoned-put}

pub cut_zones : (zones : List Place) (i : ℕ) (z : Place) → i < length zones → z ≡ get_or zones i z → drop i zones ≡ z ∷ drop (i + 1) zones
cut_zones zones i z within is =
    let after : suc i ≡ i + 1 = omega arith in
    drop-cons zones i z within ∙ ap (λ (x : Place). x ∷ drop (suc i) zones) (sym is) ∙ ap (λ (k : ℕ). z ∷ drop k zones) after

module _ (lives : List Life) (place : ℕ) (there : place < length lives) where
  placed_own : IsPlaced lives lives place (life_at lives place)
  placed_own = record { stay = λ i lt. refl; longer = same_length lives; within = there; here = refl }

  seated : (z : Place) (seats next : List (Place × ℕ)) → next ≡ insert_entry by_place seats z place → AreShared lives seats → lives_told lives next ≡ insert_entry by_place (lives_told lives seats) z (life_at lives place)
  seated z seats next is are = ap (λ (es : List (Place × ℕ)). lives_told lives es) is ∙ told-put lives lives place (life_at lives place) placed_own z seats are.there

  pub seat-shared : (z : Place) (seats next : List (Place × ℕ)) → next ≡ insert_entry by_place seats z place → AreShared lives seats → AreShared lives next
  seat-shared z seats next is are = subst (λ (es : List (Place × ℕ)). AreShared lives es) (sym is) (shared-put lives lives place (life_at lives place) placed_own z seats are)

  -- one zone more
  pub seat-told : (zones : List Place) (i : ℕ) (z : Place) (seats next : List (Place × ℕ)) (all : List (Place × Life)) → i < length zones → z ≡ get_or zones i z → next ≡ insert_entry by_place seats z place → AreShared lives seats
      → lives_put (life_at lives place) (drop i zones) (lives_told lives seats) ≡ all → lives_put (life_at lives place) (drop (i + 1) zones) (lives_told lives next) ≡ all
  seat-told zones i z seats next all within is next_is are sofar =
      ap (λ (es : List (Place × Life)). lives_put (life_at lives place) (drop (i + 1) zones) es) (seated z seats next next_is are)
      ∙ ap (λ (zs : List Place). lives_put (life_at lives place) zs (lives_told lives seats)) (sym (cut_zones zones i z within is))
      ∙ sofar

  pub seat-tallied : (p : Life → Bool) (i : ℕ) (z : Place) (seats next : List (Place × ℕ)) (before : Option ℕ) (waits waits_next old : ℕ) → next ≡ insert_entry by_place seats z place → AreShared lives seats → before ≡ lookup (is_at (by_place z)) seats
      → waits_next ≡ waits + one_of p (option_map (life_at lives) before)
      → tally p (values_of (lives_told lives seats)) + waits ≡ old + times i (one (p (life_at lives place)))
      → tally p (values_of (lives_told lives next)) + waits_next ≡ old + times (i + 1) (one (p (life_at lives place)))
  seat-tallied p i z seats next before waits waits_next old next_is are before_is counted sofar =
      let es = lives_told lives seats in
      let l = life_at lives place in
      let put_is : tally p (values_of (lives_told lives next)) + one_of p (lookup (is_at (by_place z)) es) ≡ one (p l) + tally p (values_of es) =
      ap (λ (xs : List (Place × Life)). tally p (values_of xs) + one_of p (lookup (is_at (by_place z)) es)) (seated z seats next next_is are) ∙ entry-tally p z l es (told-ascending lives seats are) in
      let own : one_of p (option_map (life_at lives) before) ≡ one_of p (lookup (is_at (by_place z)) es) = ap (λ (o : Option Life). one_of p o) (found_life lives seats z before before_is) in
      let more = times-next i (one (p l)) in
      omega (arith, put_is, own, counted, sofar, more)

-- lives that were there, and one that was placed
module _ (before after : List Life) (place : ℕ) (l : Life) (placed : IsPlaced before after place l) (seats : List (Place × ℕ)) (are : AreShared before seats) (slice : List Life) (slice_is : slice ≡ after) where
  pub lives-came : (zones : List Place) (next : List (Place × ℕ)) → lives_told slice next ≡ lives_put (life_at slice place) zones (lives_told slice seats) → lives_told after next ≡ lives_put l zones (lives_told before seats)
  lives-came zones next h =
      subst (λ (xs : List Life). lives_told xs next ≡ lives_put (life_at xs place) zones (lives_told xs seats)) slice_is h
      ∙ (λ i. lives_put (placed.here i) zones (told_stay before after place l placed seats are.there i))

  pub lives-tallied : (p : Life → Bool) (next : List (Place × ℕ)) (befores : List Before) (n : ℕ) → IsTallied p (values_of (lives_told slice seats)) (values_of (lives_told slice next)) befores n (life_at slice place)
      → IsTallied p (values_of (lives_told before seats)) (values_of (lives_told after next)) befores n l
  lives-tallied p next befores n h =
      subst (λ (xs : List Life). IsTallied p (values_of (lives_told xs seats)) (values_of (lives_told xs next)) befores n (life_at xs place)) slice_is h
      ∙ (λ i. tally p (values_of (told_stay before after place l placed seats are.there i)) + times n (one (p (placed.here i))))

-- rows of an event

rows_along_put : (e : Event) (l : Life) (zones : List Place) (lives : List (Place × Life)) → rows_with e (lives_put l zones lives) ≡ rows_put e l zones (rows_with e lives)
rows_along_put e l [] lives = refl
rows_along_put e l (z ∷ zones) lives =
    rows_along_put e l zones (insert_entry by_place lives z l)
    ∙ ap (λ (es : List (Place × Row)). rows_put e l zones es) (made-put (row_with e) z l lives)

pub runs-put : (event : Option Event) (d : Event) (l : Life) (zones : List Place) (lives : List (Place × Life)) → HaveEvent event lives → AreOf d (values_of (rows_told event lives))
    → rows_with d (lives_put l zones lives) ≡ rows_put d l zones (rows_told event lives)
runs-put event d l zones lives have own =
    rows_along_put d l zones lives ∙ ap (λ (es : List (Place × Row)). rows_put d l zones es) (sym (told-own event d lives have own))

pub rows-tallied : (event : Option Event) (d : Event) (lives next : List (Place × Life)) (befores : List Before) (n : ℕ) (l : Life) (p : Life → Bool) → HaveEvent event lives → AreOf d (values_of (rows_told event lives))
    → IsTallied p (values_of lives) (values_of next) befores n l → AreTallied p (values_of (rows_told event lives)) (values_of (rows_with d next)) befores n l
rows-tallied event d lives next befores n l p have own h =
    ap (λ (k : ℕ). k + owed p befores) (rows-tally p d next)
    ∙ h
    ∙ ap (λ (k : ℕ). k + times n (one (p l))) (sym (ap (λ (es : List (Place × Row)). tally (passes p) (values_of es)) (told-own event d lives have own) ∙ rows-tally p d lives))

-- what is kept of the rows of an event
abbrev Kept : Event → List (Place × Row) → Type 0
Kept e es = AreZoned es × IsStrictlySortedBy by_place (keys_of es) × IsStrictlySortedBy by_key (values_of es) × AreOf e (values_of es)

kept_put : (e : Event) (l : Life) (z : Place) (es : List (Place × Row)) → Kept e es → Kept e (insert_entry by_place es z (row_with e z l))
kept_put e l z es kept =
    let row = row_with e z l in
    let is = values-zoned row es kept.0 kept.3 in (
      zoned-put row es kept.0,
      ascending-put by_place by_place_total by_place_ties z es row kept.1,
      subst (λ (rows : List Row). IsStrictlySortedBy by_key rows) (sym is) (put-sorted row (values_of es) kept.2),
      subst (λ (rows : List Row). AreOf e rows) (sym is) (put-all (λ (r : Row). r.event ≡ e) row (values_of es) refl kept.3),
    )

all_kept : (e : Event) (l : Life) (zones : List Place) (es : List (Place × Row)) → Kept e es → Kept e (rows_put e l zones es)
all_kept e l [] es kept = kept
all_kept e l (z ∷ zones) es kept = all_kept e l zones (insert_entry by_place es z (row_with e z l)) (kept_put e l z es kept)

put_values : (e : Event) (l : Life) (zones : List Place) (es : List (Place × Row)) → Kept e es → values_of (rows_put e l zones es) ≡ add_each (rows_along e l zones) (values_of es)
put_values e l [] es kept = refl
put_values e l (z ∷ zones) es kept =
    put_values e l zones (insert_entry by_place es z (row_with e z l)) (kept_put e l z es kept)
    ∙ ap (λ (rows : List Row). add_each (rows_along e l zones) rows) (values-zoned (row_with e z l) es kept.0 kept.3)

pub run-made : (e : Event) (l : Life) (zones : List Place) (es next : List (Place × Row)) (counts counts_next : List (Standing × ℕ)) (befores : List Before) → next ≡ rows_put e l zones es
    → ((p : Life → Bool) → AreTallied p (values_of es) (values_of next) befores (length zones) l) → counts_next ≡ restood befores (length zones) l counts → AreOf e (values_of es) → AreEventRows es counts → IsRunPut e l zones es next counts_next
run-made e l zones es next counts counts_next befores next_is tallied counts_are own are =
    let kept : Kept e es = (are.zoned, are.zones_ascending, are.in_order, own) in
    let after = subst (λ (xs : List (Place × Row)). Kept e xs) (sym next_is) (all_kept e l zones es kept) in
    record {
      rows = ap (λ (xs : List (Place × Row)). values_of xs) next_is ∙ put_values e l zones es kept;
      are = record {
        zoned = after.0;
        zones_ascending = after.1;
        in_order = after.2;
        of_first = of-first e (values_of next) after.3;
        standing = subst (λ (cs : List (Standing × ℕ)). AreCounts cs (values_of next)) (sym counts_are)
            (stood-put (values_of es) (values_of next) counts befores (length zones) l are.standing (λ k. tallied (stands_so k)));
      };
    }
