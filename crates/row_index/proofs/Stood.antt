-- The rows of an event that no line has ended, counted by period.
use Rattle.std.proofs.Common.{◌≡◌, ◌∙◌, ◌≤◌, ◌+◌, ◌-◌, ◌==◌, inl, inr, ℕ, zero, suc, List, [], ◌∷◌, ◌&&◌, ◌||◌, not, Bool, true, false, cond, Ordering, Less, Equal, Greater, Option, Some, None, unwrap_or, refl, ap, sym, subst, arith}
use Rattle.std.proofs.lemmas.Map.Lookups.{exact_pairs}
use Rattle.std.specs.Prelude.{nat_le, slice_get}
use Rattle.std.proofs.lemmas.List.Elements.{recursion_from_All}
use Rattle.std.proofs.lemmas.Bool.{and_parts}
use Rattle.std.proofs.lemmas.Bool.Decides.{nat_tests}
use Rattle.std.proofs.lemmas.Cmp.{tied_itself}
use Rattle.std.specs.BTreeMap.{insert_entry, is_at}
use Rattle.std.specs.BTreeMap.Range.{IsLeBy}
use Rattle.std.specs.Cmp.{IsTotalOrder}
use Rattle.std.specs.List.{All, AllByRecursion, list_any}
use Rattle.std.specs.List.Sorted.{IsStrictlySortedBy}
use Rattle.std.specs.Map.{keys_of, lookup, remove_entry}
use Rattle.std.specs.Ordering.{match_ordering, ordering_then, is_eq, is_le, is_lt, is_gt, nat_cmp}
use Rattle.std.specs.Set.{remove_key}
use Rattle.hazard_types.specs.contracts.period.PeriodPartialEq.TheImpl as period_eq
use Rattle.hazard_types.specs.declared.line.Row.{Row}
use Rattle.hazard_types.specs.declared.period.End.{End}
use Rattle.hazard_types.specs.declared.period.End.TheVariants as end
use Rattle.hazard_types.specs.declared.period.Period.{Period}
use Rattle.hazard_types.specs.contracts.period.EndOrd.TheImpl as end_order
use Rattle.hazard_types.proofs.Equality.{period_one}
use Rattle.hazard_types.proofs.OrderLaws.{by_end_total, by_end_ties, numbers_tied}
use Rattle.event_life.specs.Periods.{ends_after, is_not_long_past, same_end, same_at, is_live, keeps_open}
use Rattle.event_life.proofs.Members.{IsIn, any_in, in_any, one_way}
use Rattle.event_life.specs.declared.life.Life.{Life}
use Rattle.row_index.specs.declared.standing.Before.{Before}
use Rattle.row_index.specs.declared.standing.Standing.{Standing}
use Rattle.row_index.specs.contracts.standing.StandingOrd.TheImpl.Laws as standing_laws
use Rattle.row_index.specs.Numbers.{stands}
use Rattle.row_index.specs.Standings.{by_standing, period_at, standing_of, life_standing, lies, lies_from, open_from, first_same, last_same, same_from, same_to, count_at, with_count, less_by, some_less, all_less, some_more, all_stay, restood, stands_so, stands_with, AreCounts}
use Rattle.row_index.specs.Tallies.{tally, one, one_of, times, owed, AreTallied}
use Rattle.row_index.specs.Steps.{has_same_period}
use Rattle.row_index.specs.Telling.{Tells}
use Rattle.row_index.proofs.Lists.{ascending-put, value_other, value_same}
use Rattle.row_index.proofs.Tallied.{times-nought, times-one}
use Rattle.row_index.proofs.Tests.{any_same, and_true, and_false, at_one, at_own, remove-sorted}

by_standing_total : IsTotalOrder by_standing
by_standing_total = standing_laws.total-law

abbrev end_cmp : End → End → Ordering
end_cmp = end_order.cmp-value.it

by_standing_ties : (a b : Standing) → by_standing a b ≡ Equal → a ≡ b
by_standing_ties a b h = ap (λ (p : End × ℕ). record { end = p.0; begin = p.1 }) (exact_pairs end_cmp nat_cmp by_end_ties numbers_tied (a.end, a.begin) (b.end, b.begin) h)

one_at : (k y : Standing) → is_at (by_standing k) y ≡ true → k ≡ y
one_at = at_one by_standing by_standing_total by_standing_ties

own_at : (k : Standing) → is_at (by_standing k) k ≡ true
own_at = at_own by_standing by_standing_total by_standing_ties

abbrev Counts : Type 0
Counts = List (Standing × ℕ)

-- a count that is set

kept_first : (b : Bool) (n : ℕ) (o p : Option ℕ) → unwrap_or o 0 ≡ unwrap_or p 0 → unwrap_or (cond b (Some n) o) 0 ≡ unwrap_or (cond b (Some n) p) 0
kept_first true n o p h = refl
kept_first false n o p h = h

put_own : (k : Standing) (n : ℕ) (es : Counts) → count_at (insert_entry by_standing es k n) k ≡ n
put_own k n es = value_same by_standing by_standing_total by_standing_ties 0 k es n

put_other : (q k : Standing) (n : ℕ) (es : Counts) → is_at (by_standing q) k ≡ false → count_at (insert_entry by_standing es k n) q ≡ count_at es q
put_other q k n es f = value_other by_standing by_standing_total by_standing_ties 0 q k es n f

none_there : (k : Standing) (es : Counts) → AllByRecursion (λ y. by_standing k y ≡ Less) (keys_of es) → count_at es k ≡ 0
none_there k [] all = refl
none_there k (e ∷ es) all = rw all.0 (none_there k es all.1)

take_own_by : (b : Bool) (k : Standing) (e : Standing × ℕ) (es : Counts) → is_at (by_standing k) e.0 ≡ b → AllByRecursion (λ y. by_standing e.0 y ≡ Less) (keys_of es) → count_at (remove_entry (is_at (by_standing k)) es) k ≡ 0
    → count_at (cond b es (e ∷ remove_entry (is_at (by_standing k)) es)) k ≡ 0
take_own_by true k e es h all later = none_there k es (subst (λ (y : Standing). AllByRecursion (λ z. by_standing y z ≡ Less) (keys_of es)) (sym (one_at k e.0 h)) all)
take_own_by false k e es h all later = rw h later

take_own : (k : Standing) (es : Counts) → IsStrictlySortedBy by_standing (keys_of es) → count_at (remove_entry (is_at (by_standing k)) es) k ≡ 0
unfolding IsStrictlySortedBy
take_own k [] up = refl
take_own k (e ∷ es) up = take_own_by (is_at (by_standing k) e.0) k e es refl up.0 (take_own k es up.1)

take_other_by : (b : Bool) (q k : Standing) (e : Standing × ℕ) (es : Counts) → is_at (by_standing k) e.0 ≡ b → is_at (by_standing q) k ≡ false → count_at (remove_entry (is_at (by_standing k)) es) q ≡ count_at es q
    → count_at (cond b es (e ∷ remove_entry (is_at (by_standing k)) es)) q ≡ count_at (e ∷ es) q
take_other_by true q k e es h f later =
    let g : is_at (by_standing q) e.0 ≡ false = subst (λ (y : Standing). is_at (by_standing q) y ≡ false) (one_at k e.0 h) f in
    rw g refl
take_other_by false q k e es h f later = kept_first (is_at (by_standing q) e.0) e.1 (lookup (is_at (by_standing q)) (remove_entry (is_at (by_standing k)) es)) (lookup (is_at (by_standing q)) es) later

take_other : (q k : Standing) (es : Counts) → is_at (by_standing q) k ≡ false → count_at (remove_entry (is_at (by_standing k)) es) q ≡ count_at es q
take_other q k [] f = refl
take_other q k (e ∷ es) f = take_other_by (is_at (by_standing k) e.0) q k e es refl f (take_other q k es f)

nought : (n : ℕ) → (n == 0) ≡ true → n ≡ 0
nought n h = grind (arith, nat_tests)

set_own : (k : Standing) (n : ℕ) (es : Counts) → IsStrictlySortedBy by_standing (keys_of es) → count_at (with_count by_standing k n es) k ≡ n
set_own k n es up = by_nought (n == 0) refl
  where
    by_nought : (b : Bool) → (n == 0) ≡ b → count_at (cond b (remove_entry (is_at (by_standing k)) es) (insert_entry by_standing es k n)) k ≡ n
    by_nought true h = take_own k es up ∙ sym (nought n h)
    by_nought false h = put_own k n es

set_other : (q k : Standing) (n : ℕ) (es : Counts) → is_at (by_standing q) k ≡ false → count_at (with_count by_standing k n es) q ≡ count_at es q
set_other q k n es f = by_nought (n == 0)
  where
    by_nought : (b : Bool) → count_at (cond b (remove_entry (is_at (by_standing k)) es) (insert_entry by_standing es k n)) q ≡ count_at es q
    by_nought true = take_other q k es f
    by_nought false = put_other q k n es f

-- what is kept of the counts

abbrev IsThere : Standing × ℕ → Type 0
IsThere e = (e.1 == 0) ≡ false

put_some_by : (o : Ordering) (k : Standing) (n : ℕ) (e : Standing × ℕ) (es tail : Counts) → (n == 0) ≡ false → AllByRecursion IsThere (e ∷ es) → AllByRecursion IsThere tail
    → AllByRecursion IsThere (match_ordering o ((k, n) ∷ e ∷ es) ((e.0, n) ∷ es) (e ∷ tail))
put_some_by Less k n e es tail h all more = (h, all)
put_some_by Equal k n e es tail h all more = (h, all.1)
put_some_by Greater k n e es tail h all more = (all.0, more)

put_some : (k : Standing) (n : ℕ) (es : Counts) → (n == 0) ≡ false → AllByRecursion IsThere es → AllByRecursion IsThere (insert_entry by_standing es k n)
put_some k n [] h all = (h, tt)
put_some k n (e ∷ es) h all = put_some_by (by_standing k e.0) k n e es (insert_entry by_standing es k n) h all (put_some k n es h all.1)

take_some_by : (b : Bool) (e : Standing × ℕ) (es tail : Counts) → AllByRecursion IsThere (e ∷ es) → AllByRecursion IsThere tail → AllByRecursion IsThere (cond b es (e ∷ tail))
take_some_by true e es tail all more = all.1
take_some_by false e es tail all more = (all.0, more)

take_some : (test : Standing → Bool) (es : Counts) → AllByRecursion IsThere es → AllByRecursion IsThere (remove_entry test es)
take_some test [] all = tt
take_some test (e ∷ es) all = take_some_by (test e.0) e es (remove_entry test es) all (take_some test es all.1)

take_keys_by : (b : Bool) (e : Standing × ℕ) (es tail : Counts) (keys : List Standing) → keys_of tail ≡ keys → keys_of (cond b es (e ∷ tail)) ≡ cond b (keys_of es) (e.0 ∷ keys)
take_keys_by true e es tail keys h = refl
take_keys_by false e es tail keys h = ap (λ (ks : List Standing). e.0 ∷ ks) h

take_keys : (test : Standing → Bool) (es : Counts) → keys_of (remove_entry test es) ≡ remove_key test (keys_of es)
take_keys test [] = refl
take_keys test (e ∷ es) = take_keys_by (test e.0) e es (remove_entry test es) (remove_key test (keys_of es)) (take_keys test es)

set-sorted : (k : Standing) (n : ℕ) (es : Counts) → IsStrictlySortedBy by_standing (keys_of es) → IsStrictlySortedBy by_standing (keys_of (with_count by_standing k n es))
set-sorted k n es up = by_nought (n == 0)
  where
    by_nought : (b : Bool) → IsStrictlySortedBy by_standing (keys_of (cond b (remove_entry (is_at (by_standing k)) es) (insert_entry by_standing es k n)))
    by_nought true = subst (λ (ks : List Standing). IsStrictlySortedBy by_standing ks) (sym (take_keys (is_at (by_standing k)) es)) (remove-sorted by_standing by_standing_total by_standing_ties (is_at (by_standing k)) (keys_of es) up)
    by_nought false = ascending-put by_standing by_standing_total by_standing_ties k es n up

set_some : (k : Standing) (n : ℕ) (es : Counts) → AllByRecursion IsThere es → AllByRecursion IsThere (with_count by_standing k n es)
set_some k n es all = by_nought (n == 0) refl
  where
    by_nought : (b : Bool) → (n == 0) ≡ b → AllByRecursion IsThere (cond b (remove_entry (is_at (by_standing k)) es) (insert_entry by_standing es k n))
    by_nought true h = take_some (is_at (by_standing k)) es all
    by_nought false h = put_some k n es h all

-- some rows less, and some more

abbrev stands_at : Standing → Life → Bool
stands_at k l = is_at (by_standing k) (life_standing l)

none_less : (n m : ℕ) → n ≡ n - times m 0
none_less n m = let none = times-nought m in omega (arith, none)

none_more : (n m : ℕ) → n ≡ times m 0 + n
none_more n m = let none = times-nought m in omega (arith, none)

less_at : (b : Bool) (n : ℕ) (k c : Standing) (es : Counts) → is_at (by_standing k) c ≡ b → IsStrictlySortedBy by_standing (keys_of es) → count_at (with_count by_standing c (count_at es c - n) es) k ≡ count_at es k - times n (one b)
less_at true n k c es at up =
    subst (λ (q : Standing). count_at (with_count by_standing c (count_at es c - n) es) q ≡ count_at es q - times n 1) (sym (one_at k c at))
    (set_own c (count_at es c - n) es up ∙ ap (λ (m : ℕ). count_at es c - m) (sym (times-one n)))
less_at false n k c es at up = set_other k c (count_at es c - n) es at ∙ none_less (count_at es k) n

more_at : (b : Bool) (n : ℕ) (k c : Standing) (es : Counts) → is_at (by_standing k) c ≡ b → IsStrictlySortedBy by_standing (keys_of es) → count_at (with_count by_standing c (count_at es c + n) es) k ≡ times n (one b) + count_at es k
more_at true n k c es at up =
    subst (λ (q : Standing). count_at (with_count by_standing c (count_at es c + n) es) q ≡ times n 1 + count_at es q) (sym (one_at k c at))
    (set_own c (count_at es c + n) es up ∙ turned (count_at es c))
  where
    turned : (m : ℕ) → m + n ≡ times n 1 + m
    turned m = let own = times-one n in omega (arith, own)
more_at false n k c es at up = set_other k c (count_at es c + n) es at ∙ none_more (count_at es k) n

less_count : (n : ℕ) (before : Option Life) (k : Standing) (es : Counts) → IsStrictlySortedBy by_standing (keys_of es) → count_at (less_by n before es) k ≡ count_at es k - times n (one_of (stands_so k) before)
less_count n None k es up = none_less (count_at es k) n
less_count n (Some old) k es up = by_ended old.ended
  where
    by_ended : (b : Bool) → count_at (cond b es (with_count by_standing (life_standing old) (count_at es (life_standing old) - n) es)) k ≡ count_at es k - times n (one (not b && stands_at k old))
    by_ended true = none_less (count_at es k) n
    by_ended false = less_at (stands_at k old) n k (life_standing old) es refl up

more_count : (n : ℕ) (life : Life) (k : Standing) (es : Counts) → IsStrictlySortedBy by_standing (keys_of es) → count_at (some_more n life es) k ≡ times n (one (stands_so k life)) + count_at es k
more_count n life k es up = by_ended life.ended
  where
    by_ended : (b : Bool) → count_at (cond b es (with_count by_standing (life_standing life) (count_at es (life_standing life) + n) es)) k ≡ times n (one (not b && stands_at k life)) + count_at es k
    by_ended true = none_more (count_at es k) n
    by_ended false = more_at (stands_at k life) n k (life_standing life) es refl up

-- what is kept of the counts, with another one or without
abbrev Kept : Counts → Type 0
Kept es = IsStrictlySortedBy by_standing (keys_of es) × AllByRecursion IsThere es

set_kept : (k : Standing) (n : ℕ) (es : Counts) → Kept es → Kept (with_count by_standing k n es)
set_kept k n es kept = (set-sorted k n es kept.0, set_some k n es kept.1)

kept_or : (b : Bool) (k : Standing) (n : ℕ) (es : Counts) → Kept es → Kept (cond b es (with_count by_standing k n es))
kept_or true k n es kept = kept
kept_or false k n es kept = set_kept k n es kept

less_kept : (n : ℕ) (before : Option Life) (es : Counts) → Kept es → Kept (less_by n before es)
less_kept n None es kept = kept
less_kept n (Some old) es kept = kept_or old.ended (life_standing old) (count_at es (life_standing old) - n) es kept

more_kept : (n : ℕ) (life : Life) (es : Counts) → Kept es → Kept (some_more n life es)
more_kept n life es kept = kept_or life.ended (life_standing life) (count_at es (life_standing life) + n) es kept

all_less_kept : (bs : List Before) (es : Counts) → Kept es → Kept (all_less bs es)
all_less_kept [] es kept = kept
all_less_kept (b ∷ bs) es kept = all_less_kept bs (some_less b es) (less_kept b.zones b.life es kept)

-- all that zones had before is taken out of what is there
all_less_count : (bs : List Before) (k : Standing) (x : ℕ) (es : Counts) → Kept es → count_at es k ≡ x + owed (stands_so k) bs → count_at (all_less bs es) k ≡ x
all_less_count [] k x es kept h = omega (arith, h)
all_less_count (b ∷ bs) k x es kept h =
    let one_less = less_count b.zones b.life k es kept.0 in
    all_less_count bs k x (some_less b es) (less_kept b.zones b.life es kept) (omega (arith, h, one_less))

-- zones come to a life

stays_alike : (k : Standing) (before : Option Life) (life : Life) → has_same_period before life ≡ true → one_of (stands_so k) before ≡ one (stands_so k life)
stays_alike k None life h = cc
stays_alike k (Some old) life h =
    let p = and_parts (period_eq.eq-value.it old.period life.period && not old.ended) _ h in
    let r = and_parts (period_eq.eq-value.it old.period life.period) _ p.0 in
    let same : life_standing old ≡ life_standing life = ap (λ (q : Period). period_at q.end q.begin) (period_one old.period life.period r.0) in
    let both : not old.ended ≡ not life.ended = r.1 ∙ sym p.1 in
    λ i. one (both i && is_at (by_standing k) (same i))

all_alike : (k : Standing) (befores : List Before) (n : ℕ) (life : Life) → all_stay befores n life ≡ true → owed (stands_so k) befores ≡ times n (one (stands_so k life))
all_alike k [] n life h = cc
all_alike k (b ∷ []) n life h =
    let p = and_parts (b.zones == n) (has_same_period b.life life) h in
    let count : b.zones ≡ n = numbers_one b.zones n p.0 in
    let own = stays_alike k b.life life p.1 in
    nothing_more (times b.zones (one_of (stands_so k) b.life)) ∙ (λ i. times (count i) (own i))
  where
    numbers_one : (a c : ℕ) → (a == c) ≡ true → a ≡ c
    numbers_one a c h = grind (arith, nat_tests)

    nothing_more : (m : ℕ) → m + 0 ≡ m
    nothing_more m = omega arith
all_alike k (b ∷ c ∷ bs) n life h = cc

pub stood-put : (rows next : List Row) (es : Counts) (befores : List Before) (n : ℕ) (life : Life) → AreCounts es rows
    → ((k : Standing) → AreTallied (stands_so k) rows next befores n life) → AreCounts (restood befores n life es) next
stood-put rows next es befores n life are tallied = by_stay (all_stay befores n life) refl
  where
    by_stay : (b : Bool) → all_stay befores n life ≡ b → AreCounts (cond b es (all_less befores (some_more n life es))) next
    by_stay true h = record {
      ascending = are.ascending;
      some = are.some;
      counted = λ k. let told = tallied k in let alike = all_alike k befores n life h in let own = are.counted k in omega (arith, told, alike, own);
    }
    by_stay false h =
        let more = some_more n life es in
        let kept : Kept es = (are.ascending, are.some) in
        let more_kept_so = more_kept n life es kept in
        let all_kept = all_less_kept befores more more_kept_so in
        record {
          ascending = all_kept.0;
          some = all_kept.1;
          counted = λ k.
              let told = tallied k in
              let own = are.counted k in
              let added = more_count n life k es are.ascending in
              all_less_count befores k (tally (stands_with k) next) more more_kept_so (omega (arith, told, own, added));
        }

pub stood-none : AreCounts [] []
unfolding IsStrictlySortedBy
stood-none = record { ascending = tt; some = tt; counted = λ k. refl }

-- the periods are those of the rows that are counted

tally_any : (p : Row → Bool) (rows : List Row) → (tally p rows == 0) ≡ not (list_any p rows)
tally_any p [] = refl
tally_any p (r ∷ rows) = by_test (p r) (tally_any p rows)
  where
    by_test : (b : Bool) → (tally p rows == 0) ≡ not (list_any p rows) → (cond b (suc (tally p rows)) (tally p rows) == 0) ≡ not (b || list_any p rows)
    by_test true later = grind (arith, nat_tests)
    by_test false later = later

key_there : (k : Standing) (es : Counts) → IsIn k (keys_of es) → AllByRecursion IsThere es → (count_at es k == 0) ≡ false
key_there k [] is all = absurd is
key_there k (e ∷ es) is all = by_place (is_at (by_standing k) e.0) refl is (λ h. key_there k es h all.1)
  where
    by_place : (b : Bool) → is_at (by_standing k) e.0 ≡ b → IsIn k (e.0 ∷ keys_of es) → (IsIn k (keys_of es) → (count_at es k == 0) ≡ false) → (unwrap_or (cond b (Some e.1) (lookup (is_at (by_standing k)) es)) 0 == 0) ≡ false
    by_place true at is later = all.0
    by_place false at (inl same) later = let own : true ≡ false = sym (own_at k) ∙ ap (is_at (by_standing k)) (sym same) ∙ at in cc
    by_place false at (inr is) later = later is

there_key : (k : Standing) (es : Counts) → (count_at es k == 0) ≡ false → IsIn k (keys_of es)
there_key k [] h = cc
there_key k (e ∷ es) h = by_place (is_at (by_standing k) e.0) refl h (there_key k es)
  where
    by_place : (b : Bool) → is_at (by_standing k) e.0 ≡ b → (unwrap_or (cond b (Some e.1) (lookup (is_at (by_standing k)) es)) 0 == 0) ≡ false → ((count_at es k == 0) ≡ false → IsIn k (keys_of es)) → IsIn k (e.0 ∷ keys_of es)
    by_place true at h later = inl (sym (one_at k e.0 at))
    by_place false at h later = inr (later h)

not_false : (b : Bool) → false ≡ not b → b ≡ true
not_false true h = refl
not_false false h = cc

pub stood-told : (rows : List Row) (es : Counts) → AreCounts es rows → Tells stands standing_of (keys_of es) rows
stood-told rows es are q = one_way (list_any q (keys_of es)) (list_any (λ r. stands r && q (standing_of r)) rows)
    (λ h.
    let w = any_in q (keys_of es) h in
    let k = w.0 in
    let some : (tally (stands_with k) rows == 0) ≡ false = ap (λ (n : ℕ). n == 0) (sym (are.counted k)) ∙ key_there k es w.1 are.some in
    let row = any_in (stands_with k) rows (not_false (list_any (stands_with k) rows) (sym some ∙ tally_any (stands_with k) rows)) in
    let p = and_parts (stands row.0) _ row.2 in
    in_any (λ r. stands r && q (standing_of r)) rows row.0 row.1 (rw (p.0, sym (one_at k (standing_of row.0) p.1), w.2) refl))
    (λ h.
    let w = any_in (λ r. stands r && q (standing_of r)) rows h in
    let k = standing_of w.0 in
    let p = and_parts (stands w.0) _ w.2 in
    let any : list_any (stands_with k) rows ≡ true = in_any (stands_with k) rows w.0 w.1 (rw (p.0, own_at k) refl) in
    let some : (count_at es k == 0) ≡ false = ap (λ (n : ℕ). n == 0) (are.counted k) ∙ tally_any (stands_with k) rows ∙ ap not any in
    in_any q (keys_of es) k (there_key k es some) p.1)

-- what is asked of an event

abbrev passes : (Standing → Bool) → Row → Bool
passes q r = stands r && q (standing_of r)

within : (o x y : Ordering) → (is_le (ordering_then o x) && not (is_lt (ordering_then o y))) ≡ (is_eq o && (is_le x && not (is_lt y)))
within Less x y = refl
within Equal x y = refl
within Greater x y = refl

le_is : (a b : ℕ) → is_le (nat_cmp a b) ≡ nat_le a b
le_is a b = grind (arith, nat_tests)

lt_is : (a b : ℕ) → not (is_lt (nat_cmp a b)) ≡ nat_le b a
lt_is a b = grind (arith, nat_tests)

le_first : (o x : Ordering) → is_le x ≡ true → is_le (ordering_then o x) ≡ is_le o
le_first Less x h = refl
le_first Equal x h = h
le_first Greater x h = refl

zero_first : (b : ℕ) → is_le (nat_cmp 0 b) ≡ true
zero_first b = le_is 0 b ∙ first
  where
    first : nat_le 0 b ≡ true
    first = grind (arith, nat_tests)

open_end : (t : ℕ) (a : End) → is_le (end_cmp (end.At (t - 30)) a) ≡ is_not_long_past a t
open_end t (end.At m) = le_is (t - 30) m ∙ early
  where
    early : nat_le (t - 30) m ≡ nat_le t (m + 30)
    early = grind (arith, nat_tests)
open_end t end.Ufn = refl

open_lies : (t : ℕ) (r : Row) → lies_from (open_from t) (standing_of r) ≡ is_not_long_past r.period.end t
open_lies t r =
    let o : Ordering = end_cmp (end.At (t - 30)) r.period.end in
    let x : Ordering = nat_cmp 0 r.period.begin in
    and_true (is_le (ordering_then o x)) ∙ le_first o x (zero_first r.period.begin) ∙ open_end t r.period.end

pub open-told : (rows : List Row) (es : Counts) (t : ℕ) → AreCounts es rows → list_any (lies_from (open_from t)) (keys_of es) ≡ list_any (keeps_open t) rows
open-told rows es t are =
    stood-told rows es are (lies_from (open_from t))
    ∙ any_same (passes (lies_from (open_from t))) (keeps_open t) rows (λ r. ap (λ (b : Bool). stands r && b) (open_lies t r))

same_end_is : (a b : End) → is_eq (end_cmp a b) ≡ same_end b a
same_end_is (end.At m) (end.At n) = equal
  where
    equal : is_eq (nat_cmp m n) ≡ (n == m)
    equal = grind (arith, nat_tests)
same_end_is (end.At m) end.Ufn = refl
same_end_is end.Ufn (end.At n) = refl
same_end_is end.Ufn end.Ufn = refl

same_begin : (t b m : ℕ) → (nat_le (first_same t b) m && nat_le m (last_same t b)) ≡ ((m == b) || (nat_le m t && nat_le b t))
same_begin t b m = by_case (nat_le b t) refl
  where
    by_case : (c : Bool) → nat_le b t ≡ c → (nat_le (cond c 0 b) m && nat_le m (cond c t b)) ≡ ((m == b) || (nat_le m t && c))
    by_case true h = grind (arith, nat_tests)
    by_case false h = grind (arith, nat_tests)

same_lies : (t : ℕ) (p : Period) (r : Row) → lies (same_from t p) (same_to t p) (standing_of r) ≡ same_at t r.period p
same_lies t p r =
    let end_is = same_end_is p.end r.period.end in
    let first_is = le_is (first_same t p.begin) r.period.begin in
    let last_is = lt_is (last_same t p.begin) r.period.begin in
    within (end_cmp p.end r.period.end) (nat_cmp (first_same t p.begin) r.period.begin) (nat_cmp (last_same t p.begin) r.period.begin)
    ∙ (λ i. end_is i && (first_is i && last_is i))
    ∙ ap (λ (b : Bool). same_end r.period.end p.end && b) (same_begin t p.begin r.period.begin)

ends_alike : (a b : End) (t : ℕ) → same_end a b ≡ true → ends_after a t ≡ ends_after b t
ends_alike (end.At m) (end.At n) t h = let e : m ≡ n = grind (arith, nat_tests) in rw e refl
ends_alike (end.At m) end.Ufn t h = cc
ends_alike end.Ufn (end.At n) t h = cc
ends_alike end.Ufn end.Ufn t h = refl

gathered : (e a s d f : Bool) → (s ≡ true → f ≡ e) → (e && (a && (s && d))) ≡ ((a && f) && (s && d))
gathered e a false d f h = ap (λ (b : Bool). e && b) (and_false a) ∙ and_false e ∙ sym (and_false (a && f))
gathered e a true d f h = subst (λ (b : Bool). (e && (a && d)) ≡ ((a && b) && d)) (sym (h refl)) (turned e a d)
  where
    turned : (e a d : Bool) → (e && (a && d)) ≡ ((a && e) && d)
    turned true true d = refl
    turned true false d = refl
    turned false true d = refl
    turned false false d = refl

and_any : (a : Bool) (p : Row → Bool) (rows : List Row) → (a && list_any p rows) ≡ list_any (λ r. a && p r) rows
and_any true p rows = refl
and_any false p [] = refl
and_any false p (r ∷ rows) = and_any false p rows

pub period-told : (rows : List Row) (es : Counts) (t : ℕ) (p : Period) → AreCounts es rows
    → (ends_after p.end t && list_any (lies (same_from t p) (same_to t p)) (keys_of es)) ≡ list_any (λ (r : Row). is_live t r && same_at t r.period p) rows
period-told rows es t p are =
    let between = lies (same_from t p) (same_to t p) in
    ap (λ (b : Bool). ends_after p.end t && b) (stood-told rows es are between)
    ∙ and_any (ends_after p.end t) (passes between) rows
    ∙ any_same (λ r. ends_after p.end t && passes between r) (λ r. is_live t r && same_at t r.period p) rows
    (λ r. ap (λ (b : Bool). ends_after p.end t && (stands r && b)) (same_lies t p r)
    ∙ gathered (ends_after p.end t) (stands r) (same_end r.period.end p.end) ((r.period.begin == p.begin) || (nat_le r.period.begin t && nat_le p.begin t)) (ends_after r.period.end t) (ends_alike r.period.end p.end t))

-- the places asked about stand in order
pub with_forward : (a : End) (first last : ℕ) → first ≤ last → IsLeBy by_standing (period_at a first) (period_at a last)
with_forward a first last le =
    ap (λ (o : Ordering). is_gt (ordering_then o (nat_cmp first last))) (tied_itself by_end_total a)
    ∙ forward (nat_cmp first last) (le_is first last ∙ rises)
  where
    rises : nat_le first last ≡ true
    rises = grind (arith, nat_tests)

    forward : (o : Ordering) → is_le o ≡ true → is_gt o ≡ false
    forward Less h = refl
    forward Equal h = refl
    forward Greater h = cc

-- the last of the periods has the greatest end

lt_first : (o p : Ordering) → is_lt (ordering_then o p) ≡ false → is_lt o ≡ false
lt_first Less p h = h
lt_first Equal p h = refl
lt_first Greater p h = refl

none_beyond : (last : Standing) (ks : List Standing) → AllByRecursion (λ (k : Standing). is_lt (by_standing last k) ≡ false) ks → list_any (λ (k : Standing). is_lt (end_cmp last.end k.end)) ks ≡ false
none_beyond last [] all = refl
none_beyond last (k ∷ ks) all = rw (lt_first (end_cmp last.end k.end) (nat_cmp last.begin k.begin) all.0) (none_beyond last ks all.1)

pub end-bound : (es : Counts) (last : Standing) → All (λ (k : Standing). is_lt (by_standing last k) ≡ false) (keys_of es) → list_any (λ (k : Standing). is_lt (end_cmp last.end k.end)) (keys_of es) ≡ false
end-bound es last all = none_beyond last (keys_of es) (recursion_from_All (λ (k : Standing). is_lt (by_standing last k) ≡ false) (keys_of es) all)

own_end : (a : End) (rest : Bool) → (is_eq (end_cmp a a) || rest) ≡ true
own_end a rest = ap (λ (o : Ordering). is_eq o || rest) (tied_itself by_end_total a)

later_end : (a b : Bool) → b ≡ true → (a || b) ≡ true
later_end true b h = refl
later_end false b h = h

abbrev key_or : Standing → Option (Standing × ℕ) → Standing
key_or k None = k
key_or k (Some e) = e.0

pub end-there : (es : Counts) (i : ℕ) (last : Standing) (n : ℕ) → slice_get es i ≡ Some (last, n) → list_any (λ (k : Standing). is_eq (end_cmp last.end k.end)) (keys_of es) ≡ true
end-there [] i last n h = cc
end-there (e ∷ es) zero last n h =
    let one : e.0 ≡ last = ap (λ (o : Option (Standing × ℕ)). key_or last o) h in
    subst (λ (k : Standing). (is_eq (end_cmp last.end k.end) || list_any (λ (x : Standing). is_eq (end_cmp last.end x.end)) (keys_of es)) ≡ true) (sym one) (own_end last.end _)
end-there (e ∷ es) (suc i) last n h = later_end (is_eq (end_cmp last.end e.0.end)) _ (end-there es i last n h)
