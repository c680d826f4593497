-- What lines of one event change is what is counted after them.
use Rattle.std.proofs.Common.{◌≡◌, ◌∙◌, ◌≤◌, ◌&&◌, ◌||◌, ℕ, Bool, true, false, cond, List, [], ◌∷◌, ◌++◌, Option, Some, unwrap_or, Ordering, Less, Equal, Greater, refl, ap, sym, subst, arith}
use Rattle.std.specs.BTreeMap.{insert_entry, is_at}
use Rattle.std.specs.BTreeSet.{insert_key}
use Rattle.std.specs.Cmp.{IsTotalOrder}
use Rattle.std.specs.List.{list_any}
use Rattle.std.specs.List.Sorted.{IsStrictlySortedBy}
use Rattle.std.specs.Map.{keys_of, lookup}
use Rattle.std.specs.Ordering.{match_ordering, is_eq}
use Rattle.hazard_types.specs.Orders.{by_hazard, by_event}
use Rattle.hazard_types.specs.Places.{Place, by_place}
use Rattle.hazard_types.specs.Same.{same_zone, same_event, same_hazard}
use Rattle.hazard_types.specs.declared.hazard.Event.{Event}
use Rattle.hazard_types.specs.declared.hazard.Hazard.{Hazard}
use Rattle.hazard_types.specs.declared.line.Line.{Line}
use Rattle.hazard_types.specs.declared.line.Row.{Row}
use Rattle.hazard_types.proofs.OrderLaws.{by_place_total, by_place_ties, by_hazard_total, by_hazard_ties, by_event_total, by_event_ties}
use Rattle.event_life.specs.Products.{by_key, put, row_at}
use Rattle.event_life.proofs.Puts.{at_key, row_at-put}
use Rattle.product_decoder.specs.Openings.{openings_in}
use Rattle.product_decoder.specs.declared.types.Opening.{Opening}
use Rattle.row_index.proofs.Tests.{at_one, at_own, any_insert, insert-sorted, any_put_plain}
use Rattle.stats_report.specs.Minutes.{minutes_left}
use Rattle.stats_report.specs.Spells.{left_of, spell_after, gain_of, gained, sums_at, no_sums, Turn, turned, Kept, spell_at, with_turn}
use Rattle.stats_report.specs.Spots.{Spots, Spot, rows_in, counted_at, row_counted}
use Rattle.stats_report.specs.Summed.{Test, in_zone, of_hazard, of_any, AreSums, IsSummed, AreKeysOf, IsFit, after_line}
use Rattle.stats_report.specs.declared.standing.Moment.{Moment}
use Rattle.stats_report.specs.declared.standing.Spell.{Spell}
use Rattle.stats_report.specs.declared.sums.Gain.{Gain}
use Rattle.stats_report.specs.declared.sums.Sums.{Sums}
use Rattle.stats_report.proofs.Amounts.{hazard_tied, zone_tied}
use Rattle.stats_report.proofs.Found.{rows_put, row_found, event_by}
use Rattle.stats_report.proofs.Summing.{left_after, counted_then, own_spot, after_is, sums_step}

-- what is found of a key when another is added

module _ {K : Type 0} (cmp : K → K → Ordering) (total : IsTotalOrder cmp) (ties : (a b : K) → cmp a b ≡ Equal → a ≡ b) where
  tied_one : (o : Ordering) → is_eq o ≡ true → o ≡ Equal
  tied_one Less h = cc
  tied_one Equal h = refl
  tied_one Greater h = cc

  passed : {X : Type 0} (b c : Bool) (v w : X) (o : Option X) → (c ≡ true → b ≡ false) → cond c (Some w) (cond b (Some v) o) ≡ cond b (Some v) (cond c (Some w) o)
  passed true true v w o h = let f = h refl in cc
  passed true false v w o h = refl
  passed false c v w o h = refl

  apart : (q k x : K) → cmp k x ≡ Greater → is_at (cmp q) x ≡ true → is_at (cmp q) k ≡ false
  apart q k x h at = by_bool (is_at (cmp q) k) refl
    where
      by_bool : (b : Bool) → is_at (cmp q) k ≡ b → is_at (cmp q) k ≡ false
      by_bool false e = e
      by_bool true e =
          let same : k ≡ x = sym (at_one cmp total ties q k e) ∙ at_one cmp total ties q x at in
          let tied : cmp k x ≡ Equal = tied_one (cmp k x) (subst (λ (y : K). is_at (cmp k) y ≡ true) same (at_own cmp total ties k)) in
          cc

  found_by : {X : Type 0} (o : Ordering) (q k : K) (v : X) (e : K × X) (es : List (K × X)) → cmp k e.0 ≡ o → lookup (is_at (cmp q)) (insert_entry cmp es k v) ≡ cond (is_at (cmp q) k) (Some v) (lookup (is_at (cmp q)) es)
      → lookup (is_at (cmp q)) (match_ordering o ((k, v) ∷ e ∷ es) ((e.0, v) ∷ es) (e ∷ insert_entry cmp es k v)) ≡ cond (is_at (cmp q) k) (Some v) (lookup (is_at (cmp q)) (e ∷ es))
  found_by Less q k v e es h later = refl
  found_by {X} Equal q k v e es h later = subst (λ (y : K). cond (is_at (cmp q) y) (Some v) (lookup (is_at (cmp q)) es) ≡ cond (is_at (cmp q) k) (Some v) (cond (is_at (cmp q) y) (Some e.1) (lookup (is_at (cmp q)) es))) (ties k e.0 h) (twice (is_at (cmp q) k) v e.1 (lookup (is_at (cmp q)) es))
    where
      twice : (b : Bool) (v w : X) (o : Option X) → cond b (Some v) o ≡ cond b (Some v) (cond b (Some w) o)
      twice true v w o = refl
      twice false v w o = refl
  found_by {X} Greater q k v e es h later =
      ap (λ (o : Option X). cond (is_at (cmp q) e.0) (Some e.1) o) later
      ∙ passed (is_at (cmp q) k) (is_at (cmp q) e.0) v e.1 (lookup (is_at (cmp q)) es) (apart q k e.0 h)

  pub found_after : {X : Type 0} (q k : K) (v : X) (es : List (K × X)) → lookup (is_at (cmp q)) (insert_entry cmp es k v) ≡ cond (is_at (cmp q) k) (Some v) (lookup (is_at (cmp q)) es)
  found_after q k v [] = refl
  found_after q k v (e ∷ es) = found_by (cmp k e.0) q k v e es refl (found_after q k v es)

  -- sums that are put

  unwrapped : (b : Bool) (s : Sums) (o : Option Sums) → unwrap_or (cond b (Some s) o) no_sums ≡ cond b s (unwrap_or o no_sums)
  unwrapped true s o = refl
  unwrapped false s o = refl

  pub sums_after : (q k : K) (s : Sums) (es : List (K × Sums)) → sums_at cmp (insert_entry cmp es k s) q ≡ cond (is_at (cmp q) k) s (sums_at cmp es q)
  sums_after q k s es = ap (λ (o : Option Sums). unwrap_or o no_sums) (found_after q k s es) ∙ unwrapped (is_at (cmp q) k) s (lookup (is_at (cmp q)) es)

  -- keys of what is put

  keys_by : {X : Type 0} (o : Ordering) (k : K) (e : K × X) (es : List (K × X)) (v : X) → keys_of (insert_entry cmp es k v) ≡ insert_key cmp (keys_of es) k
      → keys_of (match_ordering o ((k, v) ∷ e ∷ es) ((e.0, v) ∷ es) (e ∷ insert_entry cmp es k v)) ≡ match_ordering o (k ∷ e.0 ∷ keys_of es) (e.0 ∷ keys_of es) (e.0 ∷ insert_key cmp (keys_of es) k)
  keys_by Less k e es v later = refl
  keys_by Equal k e es v later = refl
  keys_by Greater k e es v later = ap (λ (ks : List K). e.0 ∷ ks) later

  pub keys_put : {X : Type 0} (k : K) (es : List (K × X)) (v : X) → keys_of (insert_entry cmp es k v) ≡ insert_key cmp (keys_of es) k
  keys_put k [] v = refl
  keys_put k (e ∷ es) v = keys_by (cmp k e.0) k e es v (keys_put k es v)

  -- a row that is put has its key, and no other has come

  module _ (key : Row → K) (own : (a b : Row) → a.zone ≡ b.zone → a.event ≡ b.event → key a ≡ key b) (row : Row) (rows : List Row) (up : IsStrictlySortedBy by_key rows) where
    rows_have : (q : K) → list_any (λ (r : Row). is_at (cmp q) (key r)) (put row rows) ≡ (is_at (cmp q) (key row) || list_any (λ (r : Row). is_at (cmp q) (key r)) rows)
    rows_have q = any_put_plain (λ (r : Row). is_at (cmp q) (key r)) (λ a b z e. ap (is_at (cmp q)) (own a b z e)) row rows up

    pub keyed_put : (ks : List K) → AreKeysOf cmp key rows ks → AreKeysOf cmp key (put row rows) (insert_key cmp ks (key row))
    keyed_put ks is = record {
      there = λ q. any_insert cmp total ties (is_at (cmp q)) (key row) ks ∙ ap (λ (b : Bool). is_at (cmp q) (key row) || b) (is.there q) ∙ sym (rows_have q);
      order = insert-sorted cmp total ties (key row) ks is.order;
    }

    -- where the key is there, the keys stay
    pub keyed_kept : (ks : List K) → list_any (is_at (cmp (key row))) ks ≡ true → AreKeysOf cmp key rows ks → AreKeysOf cmp key (put row rows) ks
    keyed_kept ks has is = record {
      there = λ q. there_by q (is_at (cmp q) (key row)) refl ∙ ap (λ (b : Bool). is_at (cmp q) (key row) || b) (is.there q) ∙ sym (rows_have q);
      order = is.order;
    }
      where
        there_by : (q : K) (b : Bool) → is_at (cmp q) (key row) ≡ b → list_any (is_at (cmp q)) ks ≡ (is_at (cmp q) (key row) || list_any (is_at (cmp q)) ks)
        there_by q true at = rw at (subst (λ (y : K). list_any (is_at (cmp y)) ks ≡ true) (sym (at_one cmp total ties q (key row) at)) has)
        there_by q false at = rw at refl

-- a spell of a turn

turned_by : {X : Type 0} (b : Bool) (xs : List X) (o : Option (List X)) (f : List X → Option Spell) → f (unwrap_or (cond b (Some xs) o) []) ≡ cond b (f xs) (f (unwrap_or o []))
turned_by true xs o f = refl
turned_by false xs o f = refl

spell_turn : (k : Kept) (e d : Event) (turn : Turn) (y : Place) → spell_at (with_turn k e turn) d y ≡ cond (is_at (by_event d) e) (lookup (is_at (by_place y)) turn.spells) (spell_at k d y)
spell_turn k e d turn y =
    ap (λ (o : Option (List (Place × Spell))). lookup (is_at (by_place y)) (unwrap_or o [])) (found_after by_event by_event_total by_event_ties d e turn.spells k.spells)
    ∙ turned_by (is_at (by_event d) e) turn.spells (lookup (is_at (by_event d)) k.spells) (λ (xs : List (Place × Spell)). lookup (is_at (by_place y)) xs)

chosen : (stamp from : ℕ) (b c : Bool) (sp : Spell) (row : Row) (x y : Option Spell) (o : Option Row) → left_of from (Some sp) ≡ minutes_left stamp from (Some row) → left_of from (cond b x y) ≡ minutes_left stamp from o
    → left_of from (cond b (cond c (Some sp) x) y) ≡ minutes_left stamp from (cond (b && c) (Some row) o)
chosen stamp from true true sp row x y o new old = new
chosen stamp from true false sp row x y o new old = old
chosen stamp from false c sp row x y o new old = old

-- sums of a turn

same_sums : {K : Type 0} (b : Bool) (q k : K) (f : K → Sums) (g : Gain) → (b ≡ true → q ≡ k) → cond b (gained (f q) g) (f q) ≡ cond b (gained (f k) g) (f q)
same_sums true q k f g h = ap (λ x. gained (f x) g) (h refl)
same_sums false q k f g h = refl

either : (b : Bool) (own other : Sums) (g : Gain) → cond b (gained (cond b own other) g) (cond b own other) ≡ cond b (gained own g) other
either true own other g = refl
either false own other g = refl

-- one line

module _ (m : Moment) (es : Spots) (line : Line) where
  pub row_event : (counted_then m es line).row.event ≡ line.event
  row_event = ap (λ (s : Spot). s.event) (own_spot m es line)

  pub row_zone : (counted_then m es line).row.zone ≡ line.zone
  row_zone = ap (λ (s : Spot). s.zone) (own_spot m es line)

  pub rows_then : IsFit m es line → rows_in (after_line m es line) ≡ put (counted_then m es line).row (rows_in es)
  rows_then fit = ap rows_in (sym (after_is m es line)) ∙ rows_put (counted_then m es line) es fit.spotted

module _ (m : Moment) (k : Kept) (es : Spots) (opened : List Opening) (line : Line) (turn : Turn) (late : m.issue ≤ m.from) (fit : IsFit m es line) where
  abbrev e : Event
  e = line.event

  abbrev now : Kept
  now = with_turn k e turn

  abbrev next : Kept
  next = with_turn k e (turned m turn line)

  abbrev before : Option Spell
  before = lookup (is_at (by_place line.zone)) turn.spells

  abbrev gain : Gain
  gain = gain_of m line before

  abbrev row : Row
  row = (counted_then m es line).row

  abbrev after : Spots
  after = after_line m es line

  abbrev opened' : List Opening
  opened' = opened ++ openings_in m.issue (line ∷ [])

  module _ (is : IsSummed m.stamp m.from es opened now) where
    spell_now : before ≡ spell_at now e line.zone
    spell_now = sym (spell_turn k e e turn line.zone ∙ ap (λ (b : Bool). cond b before (spell_at k e line.zone)) (at_own by_event by_event_total by_event_ties e))

    was : left_of m.from before ≡ minutes_left m.stamp m.from (row_counted (counted_at es line))
    was = ap (left_of m.from) spell_now ∙ is.spells e line.zone m.from (same m.from) ∙ ap (minutes_left m.stamp m.from) (sym (row_found es fit.spotted line.event line.zone))
      where
        same : (n : ℕ) → n ≤ n
        same n = omega arith

    step_sums : (test : Test) (s : Sums) → AreSums es opened test s → AreSums after opened' test (cond (test line.event line.zone) (gained s gain) s)
    step_sums = sums_step m es opened line fit late before was

    spell_step : (d : Event) (y : Place) (from : ℕ) → m.from ≤ from → left_of from (spell_at next d y) ≡ minutes_left m.stamp from (row_at (rows_in after) d y)
    spell_step d y from lt =
        let b = is_at (by_event d) e in
        let c = is_at (by_place y) line.zone in
        let sp = spell_after m line in
        let left = spell_turn k e d (turned m turn line) y ∙ ap (λ (o : Option Spell). cond b o (spell_at k d y)) (found_after by_place by_place_total by_place_ties y line.zone sp turn.spells) in
        let tests : at_key d y row ≡ (b && c) = (λ i. same_event (row_event m es line i) d && same_zone (row_zone m es line i) y) ∙ sym (λ i. event_by (by_event d e) d e refl i && zone_tied y line.zone i) in
        let right = ap (λ (rows : List Row). row_at rows d y) (rows_then m es line fit) ∙ row_at-put row (rows_in es) d y ∙ ap (λ (b : Bool). cond b (Some row) (row_at (rows_in es) d y)) tests in
        let old = ap (left_of from) (sym (spell_turn k e d turn y)) ∙ is.spells d y from lt in
        let new = left_after m line (row_counted (counted_at es line)) from (later m.issue m.from from late lt) fit.going in
        ap (left_of from) left
        ∙ chosen m.stamp from b c sp row (lookup (is_at (by_place y)) turn.spells) (spell_at k d y) (row_at (rows_in es) d y) new old
        ∙ ap (minutes_left m.stamp from) (sym right)
      where
        later : (a b c : ℕ) → a ≤ b → b ≤ c → a ≤ c
        later a b c f g = omega (arith, f, g)

    zone_step : (y : Place) → AreSums after opened' (in_zone y) (sums_at by_place next.zones y)
    zone_step y =
        let b = is_at (by_place y) line.zone in
        let f = λ (z : Place). sums_at by_place turn.zones z in
        let told = sums_after by_place by_place_total by_place_ties y line.zone (gained (f line.zone) gain) turn.zones in
        let test : same_zone line.zone y ≡ b = sym (zone_tied y line.zone) in
        subst (λ (s : Sums). AreSums after opened' (in_zone y) s)
        (ap (λ (b : Bool). cond b (gained (f y) gain) (f y)) test ∙ same_sums b y line.zone f gain (at_one by_place by_place_total by_place_ties y line.zone) ∙ sym told)
        (step_sums (in_zone y) (f y) (is.zones y))

    hazard_step : (h : Hazard) → AreSums after opened' (of_hazard h) (sums_at by_hazard next.hazards h)
    hazard_step h =
        let b = is_at (by_hazard h) e.hazard in
        let other = sums_at by_hazard k.hazards h in
        let old = sums_after by_hazard by_hazard_total by_hazard_ties h e.hazard turn.own k.hazards in
        let told = sums_after by_hazard by_hazard_total by_hazard_ties h e.hazard (gained turn.own gain) k.hazards in
        let test : same_hazard e.hazard h ≡ b = sym (hazard_tied h e.hazard) in
        subst (λ (s : Sums). AreSums after opened' (of_hazard h) s)
        ((λ i. cond (test i) (gained (old i) gain) (old i)) ∙ either b turn.own other gain ∙ sym told)
        (step_sums (of_hazard h) (sums_at by_hazard now.hazards h) (is.hazards h))

    pub summed_step : IsSummed m.stamp m.from after opened' next
    summed_step = record {
      spells = spell_step;
      zones = zone_step;
      hazards = hazard_step;
      all = step_sums of_any turn.all is.all;
    }
