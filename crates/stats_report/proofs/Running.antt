-- Lawful lines that are taken.
use Rattle.std.proofs.Common.{◌≡◌, ◌∙◌, ◌≤◌, ◌||◌, ℕ, Bool, true, false, cond, List, [], ◌∷◌, ◌++◌, fold, Option, Some, Ordering, Equal, refl, ap, sym, subst, append_assoc, append-nil}
use Rattle.std.specs.BTreeSet.{insert_key}
use Rattle.std.specs.List.{AllByRecursion, list_any}
use Rattle.std.specs.Map.{keys_of, lookup}
use Rattle.std.specs.BTreeMap.{is_at}
use Rattle.std.specs.Cmp.{IsTotalOrder}
use Rattle.std.specs.Prelude.{unwrap_or}
use Rattle.std.proofs.lemmas.Grind.{fold-append}
use Rattle.hazard_types.specs.Orders.{by_hazard, by_event}
use Rattle.hazard_types.specs.Places.{Place, by_place}
use Rattle.hazard_types.specs.declared.hazard.Event.{Event}
use Rattle.hazard_types.specs.declared.hazard.Hazard.{Hazard}
use Rattle.hazard_types.specs.declared.line.Line.{Line}
use Rattle.hazard_types.specs.declared.line.Row.{Row}
use Rattle.hazard_types.proofs.OrderLaws.{by_place_total, by_place_ties, by_hazard_total, by_hazard_ties, by_event_total, by_event_ties}
use Rattle.event_life.specs.Lives.{opens}
use Rattle.event_life.specs.Products.{put}
use Rattle.product_decoder.specs.Openings.{opening_of, openings_in}
use Rattle.product_decoder.specs.declared.types.Opening.{Opening}
use Rattle.row_index.proofs.Tests.{at_one, at_own, any_insert}
use Rattle.stats_report.specs.Spells.{left_of, gain_of, gained, sums_at, Turn, turned, Kept, spells_of, spell_at, turn_at, with_turn}
use Rattle.stats_report.specs.Spots.{Spots, rows_in}
use Rattle.stats_report.specs.Summed.{of_hazard, AreSums, IsSummed, AreKeysOf, hazard_of, event_of, zone_of, AreKeyed, IsFit, after_line, AreFit, IsKeptOf, TakesLawful}
use Rattle.stats_report.specs.declared.standing.Moment.{Moment}
use Rattle.stats_report.specs.declared.standing.Spell.{Spell}
use Rattle.stats_report.specs.declared.sums.Sums.{Sums}
use Rattle.stats_report.proofs.Summing.{counted_then}
use Rattle.stats_report.proofs.Turning.{found_after, sums_after, keys_put, keyed_put, keyed_kept, row_event, row_zone, rows_then, summed_step}

-- what lines open, one after another

pub lines_open : (t : ℕ) (xs ys : List Line) → openings_in t (xs ++ ys) ≡ openings_in t xs ++ openings_in t ys
lines_open t [] ys = refl
lines_open t (x ∷ xs) ys = by_test (opens x.action) (lines_open t xs ys)
  where
    by_test : (b : Bool) → openings_in t (xs ++ ys) ≡ openings_in t xs ++ openings_in t ys
        → cond b (opening_of t x ∷ openings_in t (xs ++ ys)) (openings_in t (xs ++ ys)) ≡ cond b (opening_of t x ∷ openings_in t xs) (openings_in t xs) ++ openings_in t ys
    by_test true later = ap (λ (os : List Opening). opening_of t x ∷ os) later
    by_test false later = later

open_next : (t : ℕ) (opened : List Opening) (line : Line) (lines : List Line) → (opened ++ openings_in t (line ∷ [])) ++ openings_in t lines ≡ opened ++ openings_in t (line ∷ lines)
open_next t opened line lines = append_assoc opened (openings_in t (line ∷ [])) (openings_in t lines) ∙ ap (λ (os : List Opening). opened ++ os) (sym (lines_open t (line ∷ []) lines))

-- lines of one event

abbrev pub IsSaid : Event → Line → Type 0
IsSaid e line = line.event ≡ e

module _ (m : Moment) (k : Kept) (e : Event) (late : m.issue ≤ m.from) where
  abbrev at : Turn → Kept
  at turn = with_turn k e turn

  one_summed : (es : Spots) (opened : List Opening) (line : Line) (turn : Turn) → IsSaid e line → IsFit m es line → IsSummed m.stamp m.from es opened (at turn)
      → IsSummed m.stamp m.from (after_line m es line) (opened ++ openings_in m.issue (line ∷ [])) (at (turned m turn line))
  one_summed es opened line turn own fit =
      subst (λ (d : Event). IsSummed m.stamp m.from es opened (with_turn k d turn) → IsSummed m.stamp m.from (after_line m es line) (opened ++ openings_in m.issue (line ∷ [])) (with_turn k d (turned m turn line))) own
      (summed_step m k es opened line turn late fit)

  lines_summed : (es : Spots) (opened : List Opening) (lines : List Line) (turn : Turn) → AllByRecursion (IsSaid e) lines → AreFit m es lines → IsSummed m.stamp m.from es opened (at turn)
      → IsSummed m.stamp m.from (fold (after_line m) es lines) (opened ++ openings_in m.issue lines) (at (fold (turned m) turn lines))
  lines_summed es opened [] turn own fit is = subst (λ (os : List Opening). IsSummed m.stamp m.from es os (at turn)) (sym (append-nil opened)) is
  lines_summed es opened (line ∷ lines) turn own fit is =
      let next = one_summed es opened line turn own.0 fit.0 is in
      subst (λ (os : List Opening). IsSummed m.stamp m.from (fold (after_line m) (after_line m es line) lines) os (at (fold (turned m) (turned m turn line) lines))) (open_next m.issue opened line lines)
      (lines_summed (after_line m es line) (opened ++ openings_in m.issue (line ∷ [])) lines (turned m turn line) own.1 fit.1 next)

  -- the turn that begins changes nothing

  same_spells : (b : Bool) (d : Event) → (b ≡ true → d ≡ e) → (f : List (Place × Spell) → Option Spell) → (o : Option (List (Place × Spell))) → o ≡ lookup (is_at (by_event d)) k.spells
      → f (unwrap_or (cond b (Some (spells_of k e)) o) []) ≡ f (spells_of k d)
  same_spells true d h f o is = ap (λ (x : Event). f (spells_of k x)) (sym (h refl))
  same_spells false d h f o is = ap (λ (o : Option (List (Place × Spell))). f (unwrap_or o [])) is

  begin_spell : (d : Event) (y : Place) → spell_at (at (turn_at k e)) d y ≡ spell_at k d y
  begin_spell d y =
      ap (λ (o : Option (List (Place × Spell))). lookup (is_at (by_place y)) (unwrap_or o [])) (found_after by_event by_event_total by_event_ties d e (spells_of k e) k.spells)
      ∙ same_spells (is_at (by_event d) e) d (at_one by_event by_event_total by_event_ties d e) (λ (xs : List (Place × Spell)). lookup (is_at (by_place y)) xs) (lookup (is_at (by_event d)) k.spells) refl

  same_own : (b : Bool) (h : Hazard) → (b ≡ true → h ≡ e.hazard) → cond b (sums_at by_hazard k.hazards e.hazard) (sums_at by_hazard k.hazards h) ≡ sums_at by_hazard k.hazards h
  same_own true h is = ap (sums_at by_hazard k.hazards) (sym (is refl))
  same_own false h is = refl

  begin_hazard : (h : Hazard) → sums_at by_hazard (at (turn_at k e)).hazards h ≡ sums_at by_hazard k.hazards h
  begin_hazard h =
      sums_after by_hazard by_hazard_total by_hazard_ties h e.hazard (sums_at by_hazard k.hazards e.hazard) k.hazards
      ∙ same_own (is_at (by_hazard h) e.hazard) h (at_one by_hazard by_hazard_total by_hazard_ties h e.hazard)

  begin_summed : (es : Spots) (opened : List Opening) → IsSummed m.stamp m.from es opened k → IsSummed m.stamp m.from es opened (at (turn_at k e))
  begin_summed es opened is = record {
    spells = λ d y from lt. ap (left_of from) (begin_spell d y) ∙ is.spells d y from lt;
    zones = is.zones;
    hazards = λ h. subst (λ (s : Sums). AreSums es opened (of_hazard h) s) (sym (begin_hazard h)) (is.hazards h);
    all = is.all;
  }

-- keys that lines have

module _ {K : Type 0} (R : K → K → Ordering) (total : IsTotalOrder R) (ties : (a b : K) → R a b ≡ Equal → a ≡ b) (key : Row → K)
    (own : (a b : Row) → a.zone ≡ b.zone → a.event ≡ b.event → key a ≡ key b) (one : K) (m : Moment) where
  abbrev HasKey : Line → Type 0
  HasKey line = (es : Spots) → key (counted_then m es line).row ≡ one

  lines_kept : (es : Spots) (lines : List Line) (ks : List K) → AllByRecursion HasKey lines → AreFit m es lines → list_any (is_at (R one)) ks ≡ true → AreKeysOf R key (rows_in es) ks
      → AreKeysOf R key (rows_in (fold (after_line m) es lines)) ks
  lines_kept es [] ks each fit has is = is
  lines_kept es (line ∷ lines) ks each fit has is =
      let row : Row = (counted_then m es line).row in
      let has_row : list_any (is_at (R (key row))) ks ≡ true = subst (λ (x : K). list_any (is_at (R x)) ks ≡ true) (sym (each.0 es)) has in
      let next : AreKeysOf R key (put row (rows_in es)) ks = keyed_kept R total ties key own row (rows_in es) fit.0.order ks has_row is in
      lines_kept (after_line m es line) lines ks each.1 fit.1 has (subst (λ (rows : List Row). AreKeysOf R key rows ks) (sym (rows_then m es line fit.0)) next)

  pub lines_keyed : (es : Spots) (line : Line) (lines : List Line) (ks : List K) → AllByRecursion HasKey (line ∷ lines) → AreFit m es (line ∷ lines) → AreKeysOf R key (rows_in es) ks
      → AreKeysOf R key (rows_in (fold (after_line m) es (line ∷ lines))) (insert_key R ks one)
  lines_keyed es line lines ks each fit is =
      let row : Row = (counted_then m es line).row in
      let put_is : AreKeysOf R key (put row (rows_in es)) (insert_key R ks (key row)) = keyed_put R total ties key own row (rows_in es) fit.0.order ks is in
      let next : AreKeysOf R key (put row (rows_in es)) (insert_key R ks one) = subst (λ (x : K). AreKeysOf R key (put row (rows_in es)) (insert_key R ks x)) (each.0 es) put_is in
      let has : list_any (is_at (R one)) (insert_key R ks one) ≡ true = any_insert R total ties (is_at (R one)) one ks ∙ ap (λ (b : Bool). b || list_any (is_at (R one)) ks) (at_own R total ties one) in
      lines_kept (after_line m es line) lines (insert_key R ks one) each.1 fit.1 has (subst (λ (rows : List Row). AreKeysOf R key rows (insert_key R ks one)) (sym (rows_then m es line fit.0)) next)

module _ (m : Moment) where
  own_zone : (a b : Row) → a.zone ≡ b.zone → a.event ≡ b.event → zone_of a ≡ zone_of b
  own_zone a b z e = z

  own_event : (a b : Row) → a.zone ≡ b.zone → a.event ≡ b.event → event_of a ≡ event_of b
  own_event a b z e = e

  own_hazard : (a b : Row) → a.zone ≡ b.zone → a.event ≡ b.event → hazard_of a ≡ hazard_of b
  own_hazard a b z e = ap (λ (e : Event). e.hazard) e

  zones_keyed : (es : Spots) (lines : List Line) (turn : Turn) → AreFit m es lines → AreKeysOf by_place zone_of (rows_in es) (keys_of turn.zones)
      → AreKeysOf by_place zone_of (rows_in (fold (after_line m) es lines)) (keys_of (fold (turned m) turn lines).zones)
  zones_keyed es [] turn fit is = is
  zones_keyed es (line ∷ lines) turn fit is =
      let row : Row = (counted_then m es line).row in
      let zones = keys_of turn.zones in
      let put_is : AreKeysOf by_place zone_of (put row (rows_in es)) (insert_key by_place zones row.zone) = keyed_put by_place by_place_total by_place_ties zone_of own_zone row (rows_in es) fit.0.order zones is in
      let keys = ap (insert_key by_place zones) (row_zone m es line) ∙ sym (keys_put by_place by_place_total by_place_ties line.zone turn.zones (gained (sums_at by_place turn.zones line.zone) (gain_of m line (lookup (is_at (by_place line.zone)) turn.spells)))) in
      zones_keyed (after_line m es line) lines (turned m turn line) fit.1
      (subst (λ (rows : List Row). AreKeysOf by_place zone_of rows (keys_of (turned m turn line).zones)) (sym (rows_then m es line fit.0))
      (subst (λ (ks : List Place). AreKeysOf by_place zone_of (put row (rows_in es)) ks) keys put_is))

  module _ (k : Kept) (e : Event) where
    said_event : (lines : List Line) → AllByRecursion (IsSaid e) lines → AllByRecursion (HasKey by_event by_event_total by_event_ties event_of own_event e m) lines
    said_event [] own = tt
    said_event (line ∷ lines) own = ((λ es. row_event m es line ∙ own.0), said_event lines own.1)

    said_hazard : (lines : List Line) → AllByRecursion (IsSaid e) lines → AllByRecursion (HasKey by_hazard by_hazard_total by_hazard_ties hazard_of own_hazard e.hazard m) lines
    said_hazard [] own = tt
    said_hazard (line ∷ lines) own = ((λ es. ap (λ (e : Event). e.hazard) (row_event m es line ∙ own.0)), said_hazard lines own.1)

    run_keyed : (es : Spots) (line : Line) (lines : List Line) → AllByRecursion (IsSaid e) (line ∷ lines) → AreFit m es (line ∷ lines) → AreKeyed (rows_in es) k
        → AreKeyed (rows_in (fold (after_line m) es (line ∷ lines))) (with_turn k e (fold (turned m) (turn_at k e) (line ∷ lines)))
    run_keyed es line lines own fit is =
        let rows : List Row = rows_in (fold (after_line m) es (line ∷ lines)) in
        let turn = fold (turned m) (turn_at k e) (line ∷ lines) in
        record {
          events = subst (λ (ks : List Event). AreKeysOf by_event event_of rows ks) (sym (keys_put by_event by_event_total by_event_ties e k.spells turn.spells))
              (lines_keyed by_event by_event_total by_event_ties event_of own_event e m es line lines (keys_of k.spells) (said_event (line ∷ lines) own) fit is.events);
          zones = zones_keyed es (line ∷ lines) (turn_at k e) fit is.zones;
          hazards = subst (λ (ks : List Hazard). AreKeysOf by_hazard hazard_of rows ks) (sym (keys_put by_hazard by_hazard_total by_hazard_ties e.hazard k.hazards turn.own))
              (lines_keyed by_hazard by_hazard_total by_hazard_ties hazard_of own_hazard e.hazard m es line lines (keys_of k.hazards) (said_hazard (line ∷ lines) own) fit is.hazards);
        }

-- lawful lines of an event, of which there are some, were taken
pub run_taken : (m : Moment) (k : Kept) (e : Event) (line : Line) (lines : List Line) → AllByRecursion (IsSaid e) (line ∷ lines)
    → TakesLawful m (line ∷ lines) k (with_turn k e (fold (turned m) (turn_at k e) (line ∷ lines)))
run_taken m k e line lines own = λ late es opened kept fit. (
  lines_summed m k e late es opened (line ∷ lines) (turn_at k e) own fit (begin_summed m k e late es opened kept.0),
  run_keyed m k e es line lines own fit kept.1,
)

fit_both : (m : Moment) (es : Spots) (xs ys : List Line) → AreFit m es (xs ++ ys) → AreFit m es xs × AreFit m (fold (after_line m) es xs) ys
fit_both m es [] ys fit = (tt, fit)
fit_both m es (x ∷ xs) ys fit = let later = fit_both m (after_line m es x) xs ys fit.1 in ((fit.0, later.0), later.1)

-- those that come next are taken behind those before
pub both_taken : (m : Moment) (old mid new : Kept) (xs ys : List Line) → TakesLawful m xs old mid → TakesLawful m ys mid new → TakesLawful m (xs ++ ys) old new
both_taken m old mid new xs ys first second = λ late es opened kept fit.
    let parts = fit_both m es xs ys fit in
    let one = first late es opened kept parts.0 in
    let two = second late (fold (after_line m) es xs) (opened ++ openings_in m.issue xs) one parts.1 in
    let es_are : fold (after_line m) (fold (after_line m) es xs) ys ≡ fold (after_line m) es (xs ++ ys) = sym (fold-append (after_line m) es xs ys) in
    let os_are : (opened ++ openings_in m.issue xs) ++ openings_in m.issue ys ≡ opened ++ openings_in m.issue (xs ++ ys) =
    append_assoc opened (openings_in m.issue xs) (openings_in m.issue ys) ∙ ap (λ (os : List Opening). opened ++ os) (sym (lines_open m.issue xs ys)) in
    subst (λ (os : List Opening). IsKeptOf m (fold (after_line m) es (xs ++ ys)) os new) os_are
    (subst (λ (fs : Spots). IsKeptOf m fs ((opened ++ openings_in m.issue xs) ++ openings_in m.issue ys) new) es_are two)
