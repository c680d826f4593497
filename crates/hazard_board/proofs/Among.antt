-- Rows among rows, and what holds of each or of each two of them.
use Rattle.std.proofs.Common.{◌≡◌, ◌⊎◌, inl, inr, ◌∙◌, List, [], ◌∷◌, Bool, true, false, Some, None, Less, Equal, refl, sym, subst, cond}
use Rattle.std.specs.List.{AllByRecursion, find, list_any}
use Rattle.std.specs.List.Sorted.{IsStrictlySortedBy}
use Rattle.std.proofs.lemmas.Bool.{false_from_ne_true}
use Rattle.hazard_types.specs.declared.line.Row.{Row}
use Rattle.hazard_types.proofs.Equality.{zone_itself, event_itself}
use Rattle.event_life.specs.Products.{by_key, row_at}
use Rattle.event_life.proofs.Puts.{at_key, at_key-parts}
use Rattle.event_life.proofs.Keys.{by_key-total, key_ties}
use Rattle.hazard_board.specs.Consistent.{EachToLater}

-- the row is one of the rows
abbrev pub IsAmong : Row → List Row → Type 0
IsAmong r [] = ⊥
IsAmong r (x ∷ rows) = (x ≡ r) ⊎ IsAmong r rows

pub of_all : (P : Row → Type 0) (rows : List Row) (r : Row) → AllByRecursion P rows → IsAmong r rows → P r
of_all P [] r all h = absurd h
of_all P (x ∷ rows) r all (inl s) = subst (λ (y : Row). P y) s all.0
of_all P (x ∷ rows) r all (inr h) = of_all P rows r all.1 h

pub all_of : (P : Row → Type 0) (rows : List Row) → ((r : Row) → IsAmong r rows → P r) → AllByRecursion P rows
all_of P [] each = tt
all_of P (x ∷ rows) each = (each x (inl refl), all_of P rows (λ r h. each r (inr h)))

-- what a search finds is among the rows
pub found_among : (p : Row → Bool) (rows : List Row) (r : Row) → find p rows ≡ Some r → IsAmong r rows
found_among p [] r h = cc
found_among p (x ∷ rows) r h =
    let step : (b : Bool) → cond b (Some x) (find p rows) ≡ Some r → (x ≡ r) ⊎ IsAmong r rows =
    λ b. elim b as (λ b. cond b (Some x) (find p rows) ≡ Some r → (x ≡ r) ⊎ IsAmong r rows) [
      | true ↦ λ g. inl (let same : x ≡ r = cc in same)
      | false ↦ λ g. inr (found_among p rows r g)
    ] in
    step (p x) h

pub none_found : (p : Row → Bool) (rows : List Row) → find p rows ≡ None → AllByRecursion (λ r. p r ≡ false) rows
none_found p [] h = tt
none_found p (x ∷ rows) h =
    let step : (b : Bool) → p x ≡ b → cond b (Some x) (find p rows) ≡ None → (p x ≡ false) × AllByRecursion (λ r. p r ≡ false) rows =
    λ b. elim b as (λ b. p x ≡ b → cond b (Some x) (find p rows) ≡ None → (p x ≡ false) × AllByRecursion (λ r. p r ≡ false) rows) [
      | true ↦ λ e g. cc
      | false ↦ λ e g. (e, none_found p rows g)
    ] in
    step (p x) refl h

-- a row that passes the test, where any does
pub one_of : (p : Row → Bool) (rows : List Row) → list_any p rows ≡ true → (r : Row) × IsAmong r rows × (p r ≡ true)
one_of p [] h = cc
one_of p (x ∷ rows) h =
    let step : (b : Bool) → p x ≡ b → (r : Row) × IsAmong r (x ∷ rows) × (p r ≡ true) =
    λ b. elim b as (λ b. p x ≡ b → (r : Row) × IsAmong r (x ∷ rows) × (p r ≡ true)) [
      | true ↦ λ e. (x, inl refl, e)
      | false ↦ λ e. let w = one_of p rows (rw e at h) in (w.0, inr w.1, w.2)
    ] in
    step (p x) refl

-- none passes the test, where none does
pub none_of_them : (p : Row → Bool) (rows : List Row) → list_any p rows ≡ false → AllByRecursion (λ r. p r ≡ false) rows
none_of_them p [] h = tt
none_of_them p (x ∷ rows) h =
    let step : (b : Bool) → p x ≡ b → (p x ≡ false) × AllByRecursion (λ r. p r ≡ false) rows =
    λ b. elim b as (λ b. p x ≡ b → (p x ≡ false) × AllByRecursion (λ r. p r ≡ false) rows) [
      | true ↦ λ e. let no_any : list_any p (x ∷ rows) ≡ true = rw e refl in cc
      | false ↦ λ e. (e, none_of_them p rows (rw e at h))
    ] in
    step (p x) refl

-- of rows in order each is the one that is found at its zone and event

at_itself : (r : Row) → at_key r.event r.zone r ≡ true
at_itself r = rw (event_itself r.event) (zone_itself r.zone)

found_first : (x r : Row) (rows : List Row) → x ≡ r → row_at (x ∷ rows) r.event r.zone ≡ Some r
found_first x r rows s = rw (s, at_itself r) refl

apart_above : (x r : Row) → by_key x r ≡ Less → at_key r.event r.zone x ≡ false
apart_above x r less = false_from_ne_true _ (λ g.
    let p = at_key-parts r.event r.zone x g in
    let tied : by_key x r ≡ Equal = key_ties x r p.1 p.0 in cc)

pub found_at : (rows : List Row) (r : Row) → IsStrictlySortedBy by_key rows → IsAmong r rows → row_at rows r.event r.zone ≡ Some r
unfolding IsStrictlySortedBy
found_at [] r up h = absurd h
found_at (x ∷ rows) r up (inl s) = found_first x r rows s
found_at (x ∷ rows) r up (inr h) = rw (apart_above x r (of_all (λ y. by_key x y ≡ Less) rows r up.0 h)) (found_at rows r up.1 h)

-- each two rows, in order

not_itself : (a : Row) → by_key a a ≡ Less → ⊥
not_itself a less = let tied : by_key a a ≡ Equal = key_ties a a refl refl in cc

not_both : (a b : Row) → by_key a b ≡ Less → by_key b a ≡ Less → ⊥
not_both a b less more = not_itself a (by_key-total.trans a b a less more)

pub of_each : (P : Row → Row → Type 0) (rows : List Row) (a b : Row) → EachToLater P rows → IsStrictlySortedBy by_key rows → IsAmong a rows → IsAmong b rows → by_key a b ≡ Less → P a b
unfolding IsStrictlySortedBy
of_each P [] a b all up h g less = absurd h
of_each P (x ∷ rows) a b all up (inl s) (inl q) less = absurd (not_itself a (subst (λ (y : Row). by_key a y ≡ Less) (sym q ∙ s) less))
of_each P (x ∷ rows) a b all up (inl s) (inr g) less = subst (λ (y : Row). P y b) s (of_all (P x) rows b all.0 g)
of_each P (x ∷ rows) a b all up (inr h) (inl q) less = absurd (not_both a b less (subst (λ (y : Row). by_key y a ≡ Less) q (of_all (λ y. by_key x y ≡ Less) rows a up.0 h)))
of_each P (x ∷ rows) a b all up (inr h) (inr g) less = of_each P rows a b all.1 up.1 h g less

pub each_of : (P : Row → Row → Type 0) (rows : List Row) → IsStrictlySortedBy by_key rows → ((a b : Row) → IsAmong a rows → IsAmong b rows → by_key a b ≡ Less → P a b) → EachToLater P rows
unfolding IsStrictlySortedBy
each_of P [] up each = tt
each_of P (x ∷ rows) up each = (
  all_of (P x) rows (λ b h. each x b (inl refl) (inr h) (of_all (λ y. by_key x y ≡ Less) rows b up.0 h)),
  each_of P rows up.1 (λ a b h g. each a b (inr h) (inr g)),
)
