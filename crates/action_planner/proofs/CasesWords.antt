-- The tests of the definitions against the words of the cases.
use Rattle.std.proofs.Common.{◌≡◌, ◌+◌, ◌&&◌, inl, inr, not, ℕ, zero, suc, ◌<◌, ◌≤◌, List, [], ◌∷◌, Bool, true, false, Option, Some, None, refl, sym, ap, subst, ◌∙◌, cond, length, arith, nat_le, codes}
use Rattle.std.proofs.lemmas.Bool.{eqb-true, eq-eqb, false_from_ne_true, le-leb, leb-true, not-true, not_from_false}
use Rattle.std.proofs.lemmas.Bool.Decides.{Decides-and, Decides-eqb, Decides-like, Decides-ltb, Decides-or, not_from_Decides}
use Rattle.std.proofs.lemmas.List.Elements.{All-from_recursion, recursion_from_All}
use Rattle.std.proofs.lemmas.Slice.Eq.{bytes_eq-Decides}
use Rattle.std.specs.Bool.{Decides}
use Rattle.std.specs.List.{All, Any, Contains, list_any, slice_index_or}
use Rattle.hazard_types.specs.Hazards.{facts_of}
use Rattle.hazard_types.specs.Names.{is_fl_phenomenon}
use Rattle.hazard_types.specs.Places.{Place}
use Rattle.hazard_types.specs.Same.{same_zone, same_event}
use Rattle.hazard_types.specs.declared.codes.Category.{Category}
use Rattle.hazard_types.specs.declared.facts.Facts.{Facts}
use Rattle.hazard_types.specs.declared.hazard.Event.{Event}
use Rattle.hazard_types.specs.declared.hazard.Hazard.{Hazard}
use Rattle.hazard_types.specs.declared.line.Line.{Line}
use Rattle.hazard_types.specs.declared.line.Row.{Row}
use Rattle.hazard_types.specs.declared.period.End.{End}
use Rattle.hazard_types.specs.declared.period.End.TheVariants.{At, Ufn}
use Rattle.hazard_types.specs.declared.period.Period.{Period}
use Rattle.office_types.specs.declared.request.PutPart.{PutPart}
use Rattle.hazard_types.proofs.Equality.{category_decides, event_decides, zone_itself, zone_one}
use Rattle.event_life.specs.Bounds.{AreSame, IsBefore, IsNear}
use Rattle.event_life.specs.Periods.{ends_after, is_not_long_past, is_live, keeps_open, overlaps, same_at, same_end}
use Rattle.hazard_board.specs.Board.{has_period}
use Rattle.action_planner.specs.Placed.{Placed, zones_of, touches, speaks}
use Rattle.action_planner.specs.Lines.{follows, is_near_end, period_of_put}
use Rattle.action_planner.specs.Conditions.{IsFollowedBy}
use Rattle.action_planner.specs.Cases.{FirstWhere, HasPeriod, IsLive, IsNotLongAfter, Overlap, SpeaksOf}
use Rattle.action_planner.proofs.LawfulLists.{Has, all_weaker, any_from, any_has, contains_from, has_any, none_from, none_of}

-- lists

module _ {X : Type 0} where
  has_at : (xs : List X) (y : X) (k : ℕ) → k < length xs → slice_index_or xs k y ≡ y → Has xs y
  has_at [] y k lt e = absurd (omega (arith, lt))
  has_at (x ∷ xs) y zero lt e = inl e
  has_at (x ∷ xs) y (suc k) lt e = inr (has_at xs y k (omega (arith, lt)) e)

  pub has_from : (xs : List X) (y : X) → Contains xs y → Has xs y
  has_from xs y h = has_at xs y h.0 h.1 h.2

  pub any_in : (P : X → Type 0) (xs : List X) → Any P xs → (y : X) × Has xs y × P y
  any_in P xs w = (w.1, has_at xs w.1 w.0 w.2 w.3, w.4)

  pub any_Decides : (f : X → Bool) (P : X → Type 0) → ((x : X) → Decides (f x) (P x)) → (xs : List X) → Decides (list_any f xs) (Any P xs)
  any_Decides f P d xs = (
    λ h. let m = has_any f xs h in any_from P xs m.0 m.1 ((d m.0).0 m.2),
    λ w. let m = any_in P xs w in any_has f xs m.0 m.1 ((d m.0).1 m.2),
  )

  pub none_Decides : (f : X → Bool) (P : X → Type 0) → ((x : X) → Decides (f x) (P x)) → (xs : List X) → Decides (not (list_any f xs)) (All (λ (x : X). ¬ P x) xs)
  none_Decides f P d xs = (
    λ h. All-from_recursion (λ (x : X). ¬ P x) xs (all_weaker (λ x. f x ≡ false) (λ x. ¬ P x) (λ x e. not_from_Decides (f x) (d x) e) xs (none_of f xs (not-true _ h))),
    λ h. not_from_false _ (none_from f xs (all_weaker (λ x. ¬ P x) (λ x. f x ≡ false) (λ x n. false_from_ne_true _ (λ e. n ((d x).0 e))) xs (recursion_from_All (λ (x : X). ¬ P x) xs h))),
  )

-- the first where a test holds

module _ {X : Type 0} {P : Type 0} where
  pub first_from : (b : Bool) (first second x : X) → Decides b P → x ≡ cond b first second → FirstWhere P first second x
  first_from true first second x d e = inl (d.0 refl, e)
  first_from false first second x d e = inr (not_from_Decides false d refl, e)

  pub first_to : (b : Bool) (first second x : X) → Decides b P → FirstWhere P first second x → x ≡ cond b first second
  first_to true first second x d (inl h) = h.1
  first_to true first second x d (inr h) = absurd (h.0 (d.0 refl))
  first_to false first second x d (inl h) = absurd (not_from_Decides false d refl h.0)
  first_to false first second x d (inr h) = h.1

-- periods and rows

pub le_Decides : (m n : ℕ) → Decides (nat_le m n) (m ≤ n)
le_Decides m n = (leb-true m n, le-leb m n)

pub not_Decides : (b : Bool) → Decides (not b) (b ≡ false)
not_Decides b = (not-true b, not_from_false b)

pub before_Decides : (end : End) (t : ℕ) → Decides (ends_after end t) (IsBefore t end)
before_Decides (At m) t = Decides-ltb t m
before_Decides Ufn t = (λ _. tt, λ _. refl)

recent_Decides : (end : End) (t : ℕ) → Decides (is_not_long_past end t) (IsNotLongAfter t end)
recent_Decides (At m) t = le_Decides t (m + 30)
recent_Decides Ufn t = (λ _. tt, λ _. refl)

pub near_Decides : (end : End) (t : ℕ) → Decides (is_near_end end t) (IsNear t end)
near_Decides (At m) t = Decides-and _ _ (le_Decides m (t + 30)) (le_Decides t (m + 30))
near_Decides Ufn t = (λ h. cc, λ n. absurd n)

end_Decides : (a b : End) → Decides (same_end a b) (a ≡ b)
end_Decides (At m) (At n) = (λ h. ap At (eqb-true m n h), λ e. eq-eqb m n (let f = e in cc))
end_Decides Ufn Ufn = (λ _. refl, λ _. refl)
end_Decides (At m) Ufn = (λ h. cc, λ e. cc)
end_Decides Ufn (At n) = (λ h. cc, λ e. cc)

pub same_Decides : (t : ℕ) (p q : Period) → Decides (same_at t p q) (AreSame t p q)
same_Decides t p q =
    Decides-and _ _ (end_Decides p.end q.end)
    (Decides-or _ _ (Decides-eqb p.begin q.begin) (Decides-and _ _ (le_Decides p.begin t) (le_Decides q.begin t)))

pub live_Decides : (t : ℕ) (row : Row) → Decides (is_live t row) (IsLive t row)
live_Decides t row = Decides-and _ _ (not_Decides row.ended) (before_Decides row.period.end t)

pub open_Decides : (t : ℕ) (row : Row) → Decides (keeps_open t row) ((row.ended ≡ false) × IsNotLongAfter t row.period.end)
open_Decides t row = Decides-and _ _ (not_Decides row.ended) (recent_Decides row.period.end t)

pub overlap_Decides : (p q : Period) → Decides (overlaps p q) (Overlap p q)
overlap_Decides p q = Decides-and _ _ (before_Decides q.end p.begin) (before_Decides p.end q.begin)

has_one_Decides : (t : ℕ) (e : Event) (p : Period) (row : Row) → Decides (same_event row.event e && is_live t row && same_at t row.period p) ((row.event ≡ e) × IsLive t row × AreSame t row.period p)
has_one_Decides t e p row = Decides-like _ (λ h. (h.0.0, h.0.1, h.1)) (λ h. ((h.0, h.1), h.2))
    (Decides-and _ _ (Decides-and _ _ (event_decides row.event e) (live_Decides t row)) (same_Decides t row.period p))

pub period_Decides : (rows : List Row) (t : ℕ) (e : Event) (part : PutPart) → Decides (has_period rows e (period_of_put part t) t) (HasPeriod rows t e part)
period_Decides rows t e part = any_Decides (λ (r : Row). same_event r.event e && is_live t r && same_at t r.period (period_of_put part t)) (λ (r : Row). (r.event ≡ e) × IsLive t r × AreSame t r.period (period_of_put part t)) (has_one_Decides t e (period_of_put part t)) rows

-- intents

pub touches_Decides : (z : Place) (p : Placed) → Decides (touches z p) (Contains (zones_of p.intent) z)
touches_Decides z p = (
  λ h. let m = has_any (λ (y : Place). same_zone y z) (zones_of p.intent) h in subst (Contains (zones_of p.intent)) (zone_one m.0 z m.2) (contains_from (zones_of p.intent) m.0 m.1),
  λ w. any_has (λ (y : Place). same_zone y z) (zones_of p.intent) z (has_from (zones_of p.intent) z w) (zone_itself z),
)

pub speaks_Decides : (e : Event) (z : Place) (p : Placed) → Decides (speaks e z p) (SpeaksOf p e z)
speaks_Decides e z p = Decides-and _ _ (event_decides p.event e) (touches_Decides z p)

-- hazards

-- a test of a category that facts name holds where there are facts that name it
pub category_told : (test : Option Facts → Bool) (named : Facts → Category) (c : Category) → test None ≡ false → ((facts : Facts) → Decides (test (Some facts)) (named facts ≡ c)) → (o : Option Facts) → Decides (test o) ((f : Facts) × (o ≡ Some f) × (named f ≡ c))
category_told test named c none each None = (λ h. let never = sym none ∙ h in cc, λ w. let e = w.1 in cc)
category_told test named c none each (Some facts) = (
  λ h. (facts, refl, (each facts).0 h),
  λ w. (each facts).1 (let same : facts ≡ w.0 = (let e = w.1 in cc) in ap named same ∙ w.2),
)

pub follows_Decides : (c : Category) (h : Hazard) → Decides (follows c (facts_of h)) (IsFollowedBy c h)
follows_Decides c h = category_told (follows c) (λ (f : Facts). f.follows) c refl (λ facts. category_decides facts.follows c) (facts_of h)

pub flood_Decides : (h : Hazard) → Decides (is_fl_phenomenon h) (h.phen ≡ codes "FL")
flood_Decides h = bytes_eq-Decides h.phen (codes "FL")

-- lines

pub same_line : (a b : Line) → a.action ≡ b.action → a.event ≡ b.event → a.zone ≡ b.zone → a.begin ≡ b.begin → a.end ≡ b.end → a.flood ≡ b.flood → a ≡ b
same_line a b action event zone begin end flood = λ i. record { action = action i; event = event i; zone = zone i; begin = begin i; end = end i; flood = flood i }
