-- Lines of different events may be taken in either order: those of a run line by line, where the text has them zone by zone.
use Rattle.std.proofs.Common.{◌≡◌, ◌∙◌, ◌≤◌, ℕ, ◌+◌, Bool, true, false, cond, List, [], ◌∷◌, ◌++◌, fold, Option, Some, Ordering, Less, Equal, Greater, refl, ap, sym, subst, arith}
use Rattle.std.specs.BTreeMap.{insert_entry, is_at}
use Rattle.std.specs.Cmp.{IsTotalOrder}
use Rattle.std.specs.List.{AllByRecursion}
use Rattle.std.specs.List.Sorted.{IsStrictlySortedBy}
use Rattle.std.specs.Ordering.{match_ordering, ordering_reverse, ordering_then, is_eq}
use Rattle.std.proofs.lemmas.Cmp.{then_total, on_total}
use Rattle.hazard_types.specs.Places.{Place, by_place}
use Rattle.hazard_types.specs.Orders.{by_event}
use Rattle.hazard_types.specs.Same.{same_event}
use Rattle.hazard_types.specs.declared.line.Line.{Line}
use Rattle.hazard_types.proofs.OrderLaws.{by_place_total, by_place_ties, by_event_total, by_event_ties}
use Rattle.event_life.specs.Products.{by_key}
use Rattle.event_life.proofs.Keys.{then_parts}
use Rattle.event_life.proofs.Puts.{put-sorted}
use Rattle.product_decoder.specs.Openings.{openings_in}
use Rattle.product_decoder.specs.declared.types.Opening.{Opening}
use Rattle.row_index.specs.Runs.{in_zone}
use Rattle.row_index.specs.Verdicts.{said_at, said_along, HaveOwnEvents}
use Rattle.stats_report.specs.Adding.{sum_where, lead_of}
use Rattle.stats_report.specs.Along.{along, line_by_line}
use Rattle.stats_report.specs.Spells.{Kept}
use Rattle.stats_report.specs.Minutes.{minutes_left}
use Rattle.stats_report.specs.Spots.{Spots, Spot, Counted, by_spot, spot_at, spot_of_line, rows_in, AreSpotted, counted_at, counted_after, row_counted, minutes_counted}
use Rattle.stats_report.specs.Summed.{Test, in_zone as of_zone, of_hazard, of_any, opens_in, AreSums, IsKeptOf, IsFit, AreFit, after_line, TakesLawful}
use Rattle.stats_report.specs.declared.standing.Moment.{Moment}
use Rattle.stats_report.specs.declared.sums.Sums.{Sums}
use Rattle.stats_report.proofs.Found.{event_by, spotted_put}
use Rattle.stats_report.proofs.Summing.{after_is, counted_then}
use Rattle.stats_report.proofs.Turning.{found_after, rows_then}
use Rattle.stats_report.proofs.Running.{lines_open}

-- two keys may be put in either order

module _ {K : Type 0} (cmp : K → K → Ordering) (total : IsTotalOrder cmp) (ties : (a b : K) → cmp a b ≡ Equal → a ≡ b) where
  back : (x y : K) (o : Ordering) → cmp x y ≡ o → cmp y x ≡ ordering_reverse o
  back x y o h = total.antisymm y x ∙ ap ordering_reverse h

  apart_back : (x y : K) → is_at (cmp x) y ≡ false → is_at (cmp y) x ≡ false
  apart_back x y h = by_order (cmp x y) refl
    where
      by_order : (o : Ordering) → cmp x y ≡ o → is_at (cmp y) x ≡ false
      by_order Less e = ap is_eq (back x y Less e)
      by_order Equal e = let t : true ≡ false = sym (ap is_eq e) ∙ h in cc
      by_order Greater e = ap is_eq (back x y Greater e)

  -- a key above another is above those that the other is not below
  above_equal : (a b e : K) → cmp a b ≡ Less → cmp a e ≡ Equal → cmp b e ≡ Greater
  above_equal a b e less h = ap (cmp b) (sym (ties a e h)) ∙ back a b Less less

  above_greater : (a b e : K) → cmp a b ≡ Less → cmp a e ≡ Greater → cmp b e ≡ Greater
  above_greater a b e less h = back e b Less (total.trans e a b (back a e Greater h) less)

  module _ {X : Type 0} where
    at_less : (k : K) (v : X) (e : K × X) (es : List (K × X)) → cmp k e.0 ≡ Less → insert_entry cmp (e ∷ es) k v ≡ (k, v) ∷ e ∷ es
    at_less k v e es h = ap (λ (o : Ordering). match_ordering o ((k, v) ∷ e ∷ es) ((e.0, v) ∷ es) (e ∷ insert_entry cmp es k v)) h

    at_equal : (k : K) (v : X) (e : K × X) (es : List (K × X)) → cmp k e.0 ≡ Equal → insert_entry cmp (e ∷ es) k v ≡ (e.0, v) ∷ es
    at_equal k v e es h = ap (λ (o : Ordering). match_ordering o ((k, v) ∷ e ∷ es) ((e.0, v) ∷ es) (e ∷ insert_entry cmp es k v)) h

    at_greater : (k : K) (v : X) (e : K × X) (es : List (K × X)) → cmp k e.0 ≡ Greater → insert_entry cmp (e ∷ es) k v ≡ e ∷ insert_entry cmp es k v
    at_greater k v e es h = ap (λ (o : Ordering). match_ordering o ((k, v) ∷ e ∷ es) ((e.0, v) ∷ es) (e ∷ insert_entry cmp es k v)) h

    module _ (a b : K) (v w : X) (less : cmp a b ≡ Less) where
      more : cmp b a ≡ Greater
      more = back a b Less less

      both_by : (o p : Ordering) (e : K × X) (es : List (K × X)) → cmp a e.0 ≡ o → cmp b e.0 ≡ p
          → insert_entry cmp (insert_entry cmp es a v) b w ≡ insert_entry cmp (insert_entry cmp es b w) a v
          → insert_entry cmp (insert_entry cmp (e ∷ es) a v) b w ≡ insert_entry cmp (insert_entry cmp (e ∷ es) b w) a v
      both_by Less Less e es h g later =
          ap (λ (xs : List (K × X)). insert_entry cmp xs b w) (at_less a v e es h)
          ∙ at_greater b w (a, v) (e ∷ es) more
          ∙ ap (λ (xs : List (K × X)). (a, v) ∷ xs) (at_less b w e es g)
          ∙ sym (ap (λ (xs : List (K × X)). insert_entry cmp xs a v) (at_less b w e es g) ∙ at_less a v (b, w) (e ∷ es) less)
      both_by Less Equal e es h g later =
          ap (λ (xs : List (K × X)). insert_entry cmp xs b w) (at_less a v e es h)
          ∙ at_greater b w (a, v) (e ∷ es) more
          ∙ ap (λ (xs : List (K × X)). (a, v) ∷ xs) (at_equal b w e es g)
          ∙ sym (ap (λ (xs : List (K × X)). insert_entry cmp xs a v) (at_equal b w e es g) ∙ at_less a v (e.0, w) es h)
      both_by Less Greater e es h g later =
          ap (λ (xs : List (K × X)). insert_entry cmp xs b w) (at_less a v e es h)
          ∙ at_greater b w (a, v) (e ∷ es) more
          ∙ ap (λ (xs : List (K × X)). (a, v) ∷ xs) (at_greater b w e es g)
          ∙ sym (ap (λ (xs : List (K × X)). insert_entry cmp xs a v) (at_greater b w e es g) ∙ at_less a v e (insert_entry cmp es b w) h)
      both_by Equal Greater e es h g later =
          ap (λ (xs : List (K × X)). insert_entry cmp xs b w) (at_equal a v e es h)
          ∙ at_greater b w (e.0, v) es g
          ∙ sym (ap (λ (xs : List (K × X)). insert_entry cmp xs a v) (at_greater b w e es g) ∙ at_equal a v e (insert_entry cmp es b w) h)
      both_by Greater Greater e es h g later =
          ap (λ (xs : List (K × X)). insert_entry cmp xs b w) (at_greater a v e es h)
          ∙ at_greater b w e (insert_entry cmp es a v) g
          ∙ ap (λ (xs : List (K × X)). e ∷ xs) later
          ∙ sym (ap (λ (xs : List (K × X)). insert_entry cmp xs a v) (at_greater b w e es g) ∙ at_greater a v e (insert_entry cmp es b w) h)
      both_by Equal Less e es h g later = let f : Less ≡ Greater = sym g ∙ above_equal a b e.0 less h in cc
      both_by Equal Equal e es h g later = let f : Equal ≡ Greater = sym g ∙ above_equal a b e.0 less h in cc
      both_by Greater Less e es h g later = let f : Less ≡ Greater = sym g ∙ above_greater a b e.0 less h in cc
      both_by Greater Equal e es h g later = let f : Equal ≡ Greater = sym g ∙ above_greater a b e.0 less h in cc

      put_both : (es : List (K × X)) → insert_entry cmp (insert_entry cmp es a v) b w ≡ insert_entry cmp (insert_entry cmp es b w) a v
      put_both [] = at_greater b w (a, v) [] more ∙ sym (at_less a v (b, w) [] less)
      put_both (e ∷ es) = both_by (cmp a e.0) (cmp b e.0) e es refl refl (put_both es)

    either_way : (a b : K) (v w : X) (es : List (K × X)) → is_at (cmp a) b ≡ false → insert_entry cmp (insert_entry cmp es a v) b w ≡ insert_entry cmp (insert_entry cmp es b w) a v
    either_way a b v w es apart = by_order (cmp a b) refl
      where
        by_order : (o : Ordering) → cmp a b ≡ o → insert_entry cmp (insert_entry cmp es a v) b w ≡ insert_entry cmp (insert_entry cmp es b w) a v
        by_order Less h = put_both a b v w h es
        by_order Equal h = let t : true ≡ false = sym (ap is_eq h) ∙ apart in cc
        by_order Greater h = sym (put_both b a w v (back a b Greater h) es)

-- so may lines at different spots change what is counted

spots_total : IsTotalOrder by_spot
spots_total = then_total (on_total (λ (s : Spot). s.zone) by_place_total) (on_total (λ (s : Spot). s.event) by_event_total)

spots_tie : (s t : Spot) → by_spot s t ≡ Equal → s ≡ t
spots_tie s t h =
    let p = then_parts (by_place s.zone t.zone) _ h in
    let zone_is = by_place_ties s.zone t.zone p.0 in
    let event_is = by_event_ties s.event t.event p.1 in
    (λ i. spot_at (event_is i) (zone_is i))

-- the lines are at different spots
abbrev AreApart : Line → Line → Type 0
AreApart a b = is_at (by_spot (spot_of_line a)) (spot_of_line b) ≡ false

other_spot : (o p : Ordering) → is_eq p ≡ false → is_eq (ordering_then o p) ≡ false
other_spot Less p h = refl
other_spot Equal p h = h
other_spot Greater p h = refl

events_apart : (a b : Line) → same_event b.event a.event ≡ false → AreApart a b
events_apart a b h = other_spot (by_place a.zone b.zone) (by_event a.event b.event) (event_by (by_event a.event b.event) a.event b.event refl ∙ h)

module _ (m : Moment) where
  unmoved : (es : Spots) (a b : Line) → AreApart b a → counted_at (after_line m es a) b ≡ counted_at es b
  unmoved es a b apart =
      found_after by_spot spots_total spots_tie (spot_of_line b) (spot_of_line a) (counted_then m es a) es
      ∙ ap (λ (c : Bool). cond c (Some (counted_then m es a)) (counted_at es b)) apart

  abbrev after_as : Spots → Line → Option Counted → Spots
  after_as es a o = insert_entry by_spot es (spot_of_line a) (counted_after m.stamp m.from m.issue a o)

  module _ (es : Spots) (a b : Line) (apart : AreApart a b) where
    apart' : AreApart b a
    apart' = apart_back by_spot spots_total spots_tie (spot_of_line a) (spot_of_line b) apart

    after_both : after_line m (after_line m es a) b ≡ after_line m (after_line m es b) a
    after_both =
        ap (after_as (after_line m es a) b) (unmoved es a b apart')
        ∙ either_way by_spot spots_total spots_tie (spot_of_line a) (spot_of_line b) (counted_then m es a) (counted_then m es b) es apart
        ∙ sym (ap (after_as (after_line m es b) a) (unmoved es b a apart))

    fit_first : IsFit m es a → IsFit m (after_line m es a) b → IsFit m es b
    fit_first fit next = record {
      spotted = fit.spotted;
      order = fit.order;
      within = subst (λ (o : Option Counted). minutes_left m.stamp m.from (row_counted o) ≤ minutes_counted o) (unmoved es a b apart') next.within;
      going = λ none. next.going (ap row_counted (unmoved es a b apart') ∙ none);
    }

    fit_second : IsFit m es a → IsFit m es b → IsFit m (after_line m es b) a
    fit_second fit first = record {
      spotted = subst (λ (fs : Spots). AreSpotted fs) (after_is m es b) (spotted_put (counted_then m es b) es fit.spotted);
      order = subst (IsStrictlySortedBy by_key) (sym (rows_then m es b first)) (put-sorted (counted_then m es b).row (rows_in es) fit.order);
      within = subst (λ (o : Option Counted). minutes_left m.stamp m.from (row_counted o) ≤ minutes_counted o) (sym (unmoved es b a apart)) fit.within;
      going = λ none. fit.going (ap row_counted (sym (unmoved es b a apart)) ∙ none);
    }

  -- lists of lines of which one is as good as the other
  pub record Alike (xs ys : List Line) : Type 0 where
    pub fit : (es : Spots) → AreFit m es xs → AreFit m es ys
    pub after : (es : Spots) → fold (after_line m) es xs ≡ fold (after_line m) es ys
    pub opened : (test : Opening → Bool) (amount : Opening → ℕ) → sum_where test amount (openings_in m.issue xs) ≡ sum_where test amount (openings_in m.issue ys)

  itself : (xs : List Line) → Alike xs xs
  itself xs = record { fit = λ es fit. fit; after = λ es. refl; opened = λ test amount. refl }

  alike_then : (xs ys zs : List Line) → Alike xs ys → Alike ys zs → Alike xs zs
  alike_then xs ys zs one two = record {
    fit = λ es fit. two.fit es (one.fit es fit);
    after = λ es. one.after es ∙ two.after es;
    opened = λ test amount. one.opened test amount ∙ two.opened test amount;
  }

  sum_both : (test : Opening → Bool) (amount : Opening → ℕ) (xs ys : List Opening) → sum_where test amount (xs ++ ys) ≡ sum_where test amount xs + sum_where test amount ys
  sum_both test amount [] ys = omega arith
  sum_both test amount (x ∷ xs) ys = let later = sum_both test amount xs ys in omega (arith, later)

  abbrev opened_by : (Opening → Bool) → (Opening → ℕ) → List Line → ℕ
  opened_by test amount lines = sum_where test amount (openings_in m.issue lines)

  opened_first : (test : Opening → Bool) (amount : Opening → ℕ) (x : Line) (xs : List Line) → opened_by test amount (x ∷ xs) ≡ opened_by test amount (x ∷ []) + opened_by test amount xs
  opened_first test amount x xs = ap (sum_where test amount) (lines_open m.issue (x ∷ []) xs) ∙ sum_both test amount (openings_in m.issue (x ∷ [])) (openings_in m.issue xs)

  alike_behind : (x : Line) (xs ys : List Line) → Alike xs ys → Alike (x ∷ xs) (x ∷ ys)
  alike_behind x xs ys alike = record {
    fit = λ es fit. (fit.0, alike.fit (after_line m es x) fit.1);
    after = λ es. alike.after (after_line m es x);
    opened = λ test amount. opened_first test amount x xs ∙ ap (λ (n : ℕ). opened_by test amount (x ∷ []) + n) (alike.opened test amount) ∙ sym (opened_first test amount x ys);
  }

  alike_swap : (a b : Line) (xs : List Line) → AreApart a b → Alike (a ∷ b ∷ xs) (b ∷ a ∷ xs)
  alike_swap a b xs apart = record {
    fit = λ es fit.
        let first = fit_first es a b apart fit.0 fit.1.0 in (
          first,
          (fit_second es a b apart fit.0 first, subst (λ (fs : Spots). AreFit m fs xs) (after_both es a b apart) fit.1.1),
        );
    after = λ es. ap (λ (fs : Spots). fold (after_line m) fs xs) (after_both es a b apart);
    opened = λ test amount. swapped test amount;
  }
    where
      swapped : (test : Opening → Bool) (amount : Opening → ℕ) → opened_by test amount (a ∷ b ∷ xs) ≡ opened_by test amount (b ∷ a ∷ xs)
      swapped test amount = omega (arith, opened_first test amount a (b ∷ xs), opened_first test amount b xs, opened_first test amount b (a ∷ xs), opened_first test amount a xs)

  alike_all : (front xs ys : List Line) → Alike xs ys → Alike (front ++ xs) (front ++ ys)
  alike_all [] xs ys alike = alike
  alike_all (x ∷ front) xs ys alike = alike_behind x (front ++ xs) (front ++ ys) (alike_all front xs ys alike)

  -- a line comes before lines that are apart from it, and so do several

  alike_move : (x : Line) (front rest : List Line) → AllByRecursion (λ (y : Line). AreApart y x) front → Alike (front ++ x ∷ rest) (x ∷ front ++ rest)
  alike_move x [] rest apart = itself (x ∷ rest)
  alike_move x (y ∷ front) rest apart =
      alike_then (y ∷ front ++ x ∷ rest) (y ∷ x ∷ front ++ rest) (x ∷ y ∷ front ++ rest)
      (alike_behind y (front ++ x ∷ rest) (x ∷ front ++ rest) (alike_move x front rest apart.1))
      (alike_swap y x (front ++ rest) apart.0)

  alike_pass : (xs front rest : List Line) → AllByRecursion (λ (x : Line). AllByRecursion (λ (y : Line). AreApart y x) front) xs → Alike (front ++ (xs ++ rest)) (xs ++ (front ++ rest))
  alike_pass [] front rest apart = itself (front ++ rest)
  alike_pass (x ∷ xs) front rest apart =
      alike_then (front ++ (x ∷ xs ++ rest)) (x ∷ front ++ (xs ++ rest)) (x ∷ xs ++ (front ++ rest))
      (alike_move x front (xs ++ rest) apart.0)
      (alike_behind x (front ++ (xs ++ rest)) (xs ++ (front ++ rest)) (alike_pass xs front rest apart.1))

  -- lines of an event each may be taken line by line or zone by zone

  said_apart : (x : Line) (lines : List Line) (z : Place) → AllByRecursion (λ (l : Line). same_event x.event l.event ≡ false) lines → AllByRecursion (λ (y : Line). AreApart y x) (said_at lines z)
  said_apart x [] z own = tt
  said_apart x (l ∷ lines) z own = (events_apart (in_zone l z) x own.0, said_apart x lines z own.1)

  along_apart : (line : Line) (zones : List Place) (lines : List Line) (z : Place) → AllByRecursion (λ (l : Line). same_event line.event l.event ≡ false) lines
      → AllByRecursion (λ (x : Line). AllByRecursion (λ (y : Line). AreApart y x) (said_at lines z)) (along line zones)
  along_apart line [] lines z own = tt
  along_apart line (y ∷ zones) lines z own = (said_apart (in_zone line y) lines z own, along_apart line zones lines z own)

  first_alike : (line : Line) (lines : List Line) (zones : List Place) → AllByRecursion (λ (l : Line). same_event line.event l.event ≡ false) lines
      → Alike (said_along (line ∷ lines) zones) (along line zones ++ said_along lines zones)
  first_alike line lines [] own = itself []
  first_alike line lines (z ∷ zones) own =
      let said = said_at lines z in
      let mid = along line zones ++ said_along lines zones in
      alike_behind (in_zone line z) (said ++ said_along (line ∷ lines) zones) (along line zones ++ (said ++ said_along lines zones))
      (alike_then (said ++ said_along (line ∷ lines) zones) (said ++ mid) (along line zones ++ (said ++ said_along lines zones))
      (alike_all said (said_along (line ∷ lines) zones) mid (first_alike line lines zones own))
      (alike_pass (along line zones) said (said_along lines zones) (along_apart line zones lines z own)))

  none_said : (zones : List Place) → said_along [] zones ≡ []
  none_said [] = refl
  none_said (z ∷ zones) = none_said zones

  pub lines_alike : (lines : List Line) (zones : List Place) → HaveOwnEvents lines → Alike (said_along lines zones) (line_by_line lines zones)
  lines_alike [] zones own = subst (λ (xs : List Line). Alike xs []) (sym (none_said zones)) (itself [])
  lines_alike (line ∷ lines) zones own =
      alike_then (said_along (line ∷ lines) zones) (along line zones ++ said_along lines zones) (along line zones ++ line_by_line lines zones)
      (first_alike line lines zones own.0)
      (alike_all (along line zones) (said_along lines zones) (line_by_line lines zones) (lines_alike lines zones own.1))

  -- what is kept is of openings in any order

  abbrev SameOpened : List Opening → List Opening → Type 0
  SameOpened os ps = (test : Opening → Bool) (amount : Opening → ℕ) → sum_where test amount os ≡ sum_where test amount ps

  sums_opened : (es : Spots) (os ps : List Opening) (test : Test) (s : Sums) → SameOpened os ps → AreSums es os test s → AreSums es ps test s
  sums_opened es os ps test s same is = record {
    minutes = is.minutes;
    openings = is.openings ∙ same (opens_in test) (λ o. 1);
    lead = is.lead ∙ same (opens_in test) lead_of;
  }

  kept_opened : (es : Spots) (os ps : List Opening) (k : Kept) → SameOpened os ps → IsKeptOf m es os k → IsKeptOf m es ps k
  kept_opened es os ps k same kept = (
    record {
      spells = kept.0.spells;
      zones = λ z. sums_opened es os ps (of_zone z) _ same (kept.0.zones z);
      hazards = λ h. sums_opened es os ps (of_hazard h) _ same (kept.0.hazards h);
      all = sums_opened es os ps of_any k.all same kept.0.all;
    },
    kept.1,
  )

  -- lines that are as good as others were taken where those were
  pub taken_alike : (xs ys : List Line) (old new : Kept) → Alike xs ys → TakesLawful m ys old new → TakesLawful m xs old new
  taken_alike xs ys old new alike takes = λ late es os kept fit.
      let after = takes late es os kept (alike.fit es fit) in
      kept_opened (fold (after_line m) es xs) (os ++ openings_in m.issue ys) (os ++ openings_in m.issue xs) new (λ test amount. joined os test amount)
      (subst (λ (fs : Spots). IsKeptOf m fs (os ++ openings_in m.issue ys) new) (sym (alike.after es)) after)
    where
      joined : (os : List Opening) (test : Opening → Bool) (amount : Opening → ℕ) → sum_where test amount (os ++ openings_in m.issue ys) ≡ sum_where test amount (os ++ openings_in m.issue xs)
      joined os test amount = omega (arith, alike.opened test amount, sum_both test amount os (openings_in m.issue ys), sum_both test amount os (openings_in m.issue xs))
