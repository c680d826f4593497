-- After a product no two open events share hazard and number, and no row's event is of a later year.
use Rattle.std.proofs.Common.{◌≡◌, ◌⊎◌, inl, inr, ◌∙◌, ◌==◌, ◌&&◌, not, ℕ, ◌+◌, ◌≤◌, List, Bool, true, false, None, Ordering, Less, Equal, Greater, refl, sym, ap, subst, nat_lt, arith}
use Rattle.std.specs.List.{All}
use Rattle.std.proofs.lemmas.List.Elements.{All-from_recursion}
use Rattle.std.specs.List.Sorted.{IsStrictlySortedBy}
use Rattle.std.proofs.lemmas.Bool.{and_parts, not-true, ltb-false, le-leb, eqb-true, eq-eqb, both_ways}
use Rattle.hazard_types.specs.Calendar.{civil_of}
use Rattle.hazard_types.specs.Days.{year_of}
use Rattle.hazard_types.specs.Same.{same_hazard, same_event}
use Rattle.hazard_types.specs.declared.hazard.Event.{Event}
use Rattle.hazard_types.specs.declared.line.Line.{Line}
use Rattle.hazard_types.specs.declared.line.Row.{Row}
use Rattle.hazard_types.specs.declared.period.End.{End}
use Rattle.hazard_types.specs.declared.period.End.TheVariants.{At, Ufn}
use Rattle.hazard_types.proofs.Equality.{event_one, hazard_one, hazard_itself}
use Rattle.event_life.specs.Bounds.{IsBefore}
use Rattle.event_life.specs.Periods.{is_not_long_past, keeps_open}
use Rattle.event_life.specs.Printed.{IsOneEvent, HasOneOpen}
use Rattle.event_life.specs.Products.{by_key, is_open, is_number_held, rows_after}
use Rattle.event_life.proofs.Keys.{key_exact}
use Rattle.event_life.proofs.Puts.{rows_after-sorted}
use Rattle.hazard_board.specs.Clashes.{least_clash}
use Rattle.hazard_board.specs.Consistent.{share_number, EachToLater, IsConsistent, NoneIsAhead, AreOfTheYear}
use Rattle.hazard_board.proofs.Among.{IsAmong, of_all, all_of, one_of, none_of_them, of_each, each_of}
use Rattle.hazard_board.proofs.AfterLemmas.{greater_less, apart_hold, ends_hold}
use Rattle.hazard_board.proofs.Origins.{IsFreeOrOpen, IsLeft, origin}

-- years

pub year_of-passes : (t u : ℕ) → t ≤ u → year_of t ≤ year_of u
unfolding civil_of
year_of-passes t u le = omega arith

ahead_of : (event year later : ℕ) → year ≤ later → event ≤ year → event ≤ later
ahead_of event year later le h = omega (arith, le, h)

pub stays_behind : (rows : List Row) (t u : ℕ) → t ≤ u → NoneIsAhead rows t → NoneIsAhead rows u
stays_behind rows t u le h = all_of (λ (row : Row). row.event.year ≤ year_of u) rows (λ r among. ahead_of r.event.year (year_of t) (year_of u) (year_of-passes t u le) (of_all (λ (row : Row). row.event.year ≤ year_of t) rows r h among))

event_is : (d e : Event) → d.hazard ≡ e.hazard → d.etn ≡ e.etn → d.year ≡ e.year → d ≡ e
event_is d e h n y = λ i. record { hazard = h i; etn = n i; year = y i }

within_before : (end : End) (t : ℕ) → IsBefore t end → is_not_long_past end t ≡ true
within_before (At m) t h = le-leb t (m + 30) (omega (arith, h))
within_before Ufn t h = refl

not_both : (a b c d : Bool) → a ≡ true → b ≡ true → d ≡ true → (a && b && c && d) ≡ false → c ≡ false
not_both true true true true p q r h = cc
not_both true true false true p q r h = refl
not_both _ _ _ _ p q r h = cc

one_year : (a q year : ℕ) → a ≡ year → q ≤ year → nat_lt q a ≡ false → q ≡ a
one_year a q year same le h = omega (arith, same, le, ltb-false q a h)

-- two open events that share hazard and number
record Share (a b : Event) : Type 0 where
  hazard : a.hazard ≡ b.hazard
  etn : a.etn ≡ b.etn

share_parts : (t : ℕ) (a b : Row) → share_number t a b ≡ true → (keeps_open t a ≡ true) × (keeps_open t b ≡ true) × Share a.event b.event
share_parts t a b h =
    let p = and_parts (keeps_open t a && keeps_open t b && same_hazard a.event.hazard b.event.hazard) _ h in
    let q = and_parts (keeps_open t a && keeps_open t b) _ p.0 in
    let r = and_parts (keeps_open t a) _ q.0 in
    (r.0, r.1, record { hazard = hazard_one a.event.hazard b.event.hazard q.1; etn = eqb-true a.event.etn b.event.etn p.1 })

shares : (t : ℕ) (a b : Row) → keeps_open t a ≡ true → keeps_open t b ≡ true → Share a.event b.event → share_number t a b ≡ true
shares t a b p q s = rw (p, q, s.hazard, hazard_itself b.event.hazard, s.etn) (eq-eqb b.event.etn b.event.etn refl)

share_turned : (a b : Event) → Share a b → Share b a
share_turned a b s = record { hazard = sym s.hazard; etn = sym s.etn }

-- an open row of the event stood before
record WasOpen (rows : List Row) (t : ℕ) (e : Event) : Type 0 where
  row : Row
  among : IsAmong row rows
  event : row.event ≡ e
  going : keeps_open t row ≡ true

record IsFree (rows : List Row) (t : ℕ) (e : Event) : Type 0 where
  number : is_number_held rows t e ≡ false
  year : e.year ≡ year_of t

module _ (rows : List Row) (t : ℕ) where
  open_before : (e : Event) → is_open rows t e ≡ true → WasOpen rows t e
  open_before e h =
      let w = one_of (λ (r : Row). same_event r.event e && keeps_open t r) rows h in
      let p = and_parts (same_event w.0.event e) _ w.2 in
      record { row = w.0; among = w.1; event = event_one w.0.event e p.0; going = p.1 }

  free_or_open : (e : Event) → IsFreeOrOpen rows t e → WasOpen rows t e ⊎ IsFree rows t e
  free_or_open e (inl f) = inr (record { number = f.0; year = f.1 })
  free_or_open e (inr h) = inl (open_before e h)

  going_open : (q : Row) → q.ended ≡ false → IsBefore t q.period.end → keeps_open t q ≡ true
  going_open q going live = rw going (within_before q.period.end t live)

  came_open : (r : Row) → IsAmong r rows ⊎ IsLeft rows t r → keeps_open t r ≡ true → WasOpen rows t r.event ⊎ IsFree rows t r.event
  came_open r (inl h) going = inl (record { row = r; among = h; event = refl; going = going })
  came_open r (inr (inl o)) going = free_or_open r.event o.event
  came_open r (inr (inr (inl (q, c)))) going = inl (record { row = q; among = c.among; event = c.event; going = going_open q c.was_going c.was_live })
  came_open r (inr (inr (inr (q, c)))) going = absurd (both_ways _ (not-true r.ended (and_parts (not r.ended) _ going).0) c.ended)

  -- an event whose number is free, and an open one of before with that number, are one
  free_one : NoneIsAhead rows t → (d e : Event) → Share d e → WasOpen rows t d → IsFree rows t e → d ≡ e
  free_one ahead d e s w f =
      let same : Share w.row.event e = record { hazard = ap (λ (x : Event). x.hazard) w.event ∙ s.hazard; etn = ap (λ (x : Event). x.etn) w.event ∙ s.etn } in
      let free = of_all (λ (r : Row). (same_hazard r.event.hazard e.hazard && (r.event.etn == e.etn) && nat_lt r.event.year e.year && keeps_open t r) ≡ false) rows w.row
      (none_of_them (λ (r : Row). same_hazard r.event.hazard e.hazard && (r.event.etn == e.etn) && nat_lt r.event.year e.year && keeps_open t r) rows f.number) w.among in
      let late : nat_lt w.row.event.year e.year ≡ false = not_both (same_hazard w.row.event.hazard e.hazard) (w.row.event.etn == e.etn) (nat_lt w.row.event.year e.year) (keeps_open t w.row)
      (rw (same.hazard) (hazard_itself e.hazard)) (eq-eqb w.row.event.etn e.etn same.etn) w.going free in
      let behind = of_all (λ (row : Row). row.event.year ≤ year_of t) rows w.row ahead w.among in
      sym w.event ∙ event_is w.row.event e same.hazard same.etn (one_year e.year w.row.event.year (year_of t) f.year behind late)

  -- two open events of before
  by_order : (o : Ordering) (a b : Row) → by_key a b ≡ o → IsStrictlySortedBy by_key rows → EachToLater (λ a b. share_number t a b ≡ true → a.event ≡ b.event) rows → IsAmong a rows → IsAmong b rows → keeps_open t a ≡ true → keeps_open t b ≡ true → Share a.event b.event → a.event ≡ b.event
  by_order Less a b is up numbered h g p q s = of_each (λ a b. share_number t a b ≡ true → a.event ≡ b.event) rows a b numbered up h g is (shares t a b p q s)
  by_order Equal a b is up numbered h g p q s = (key_exact a b is).1
  by_order Greater a b is up numbered h g p q s = sym (of_each (λ a b. share_number t a b ≡ true → a.event ≡ b.event) rows b a numbered up g h (greater_less a b is) (shares t b a q p (share_turned a.event b.event s)))

  module _ (up : IsStrictlySortedBy by_key rows) (before : IsConsistent rows t) (ahead : NoneIsAhead rows t) where
    both_open : (d e : Event) → Share d e → WasOpen rows t d → WasOpen rows t e → d ≡ e
    both_open d e s v w =
        let same : Share v.row.event w.row.event = record {
          hazard = ap (λ (x : Event). x.hazard) v.event ∙ s.hazard ∙ sym (ap (λ (x : Event). x.hazard) w.event);
          etn = ap (λ (x : Event). x.etn) v.event ∙ s.etn ∙ sym (ap (λ (x : Event). x.etn) w.event);
        } in
        sym v.event ∙ by_order (by_key v.row w.row) v.row w.row refl up before.numbered v.among w.among v.going w.going same ∙ w.event

    one_event : (d e : Event) → Share d e → WasOpen rows t d ⊎ IsFree rows t d → WasOpen rows t e ⊎ IsFree rows t e → d ≡ e
    one_event d e s (inl v) (inl w) = both_open d e s v w
    one_event d e s (inl v) (inr f) = free_one ahead d e s v f
    one_event d e s (inr f) (inl w) = sym (free_one ahead e d (share_turned d e s) w f)
    one_event d e s (inr f) (inr g) = event_is d e s.hazard s.etn (f.year ∙ sym g.year)

    numbered_hold : (lines : List Line) → AreOfTheYear lines t → EachToLater (λ a b. share_number t a b ≡ true → a.event ≡ b.event) (rows_after rows t lines)
    numbered_hold lines years =
        each_of (λ a b. share_number t a b ≡ true → a.event ≡ b.event) (rows_after rows t lines) (rows_after-sorted rows t lines up) (λ a b h g less shared.
        let p = share_parts t a b shared in
        one_event a.event b.event p.2 (came_open a (origin rows t lines years a up h) p.0) (came_open b (origin rows t lines years b up g) p.1))

  -- no row's event is of a later year

  behind_open : (e : Event) → NoneIsAhead rows t → WasOpen rows t e → e.year ≤ year_of t
  behind_open e ahead w = subst (λ (x : Event). x.year ≤ year_of t) w.event (of_all (λ (row : Row). row.event.year ≤ year_of t) rows w.row ahead w.among)

  same_year : (e year : ℕ) → e ≡ year → e ≤ year
  same_year e year h = omega (arith, h)

  behind_free : (e : Event) → NoneIsAhead rows t → WasOpen rows t e ⊎ IsFree rows t e → e.year ≤ year_of t
  behind_free e ahead (inl w) = behind_open e ahead w
  behind_free e ahead (inr f) = same_year e.year (year_of t) f.year

  behind_each : (r : Row) → NoneIsAhead rows t → IsAmong r rows ⊎ IsLeft rows t r → r.event.year ≤ year_of t
  behind_each r ahead (inl h) = of_all (λ (row : Row). row.event.year ≤ year_of t) rows r ahead h
  behind_each r ahead (inr (inl o)) = behind_free r.event ahead (free_or_open r.event o.event)
  behind_each r ahead (inr (inr (inl (q, c)))) = subst (λ (x : Event). x.year ≤ year_of t) c.event (of_all (λ (row : Row). row.event.year ≤ year_of t) rows q ahead c.among)
  behind_each r ahead (inr (inr (inr (q, c)))) = subst (λ (x : Event). x.year ≤ year_of t) c.event (of_all (λ (row : Row). row.event.year ≤ year_of t) rows q ahead c.among)

-- no row's event is of a later year after a product either
pub behind_hold : (rows : List Row) (t : ℕ) (lines : List Line) → IsStrictlySortedBy by_key rows → NoneIsAhead rows t → AreOfTheYear lines t → NoneIsAhead (rows_after rows t lines) t
behind_hold rows t lines up ahead years = all_of (λ (row : Row). row.event.year ≤ year_of t) (rows_after rows t lines) (λ r h. behind_each rows t r ahead (origin rows t lines years r up h))

-- consistent rows stay so after a product that leaves no clash
pub after_consistent : (rows : List Row) (t : ℕ) (lines : List Line) → IsStrictlySortedBy by_key rows → IsConsistent rows t → NoneIsAhead rows t → AreOfTheYear lines t → least_clash t (rows_after rows t lines) ≡ None → IsConsistent (rows_after rows t lines) t
after_consistent rows t lines up before ahead years none = record {
  apart = apart_hold rows t lines up years before none;
  numbered = numbered_hold rows t up before ahead lines years;
  ends = ends_hold rows t lines up years before;
}

-- so a hazard and number finds the one open event that has them
pub have_one_open : (rows : List Row) (t : ℕ) → IsStrictlySortedBy by_key rows → IsConsistent rows t → HasOneOpen rows t
have_one_open rows t up before =
    All-from_recursion (λ r. All (λ s. IsOneEvent t r s) rows) rows (all_of (λ r. All (λ s. IsOneEvent t r s) rows) rows (λ r h.
    All-from_recursion (λ s. IsOneEvent t r s) rows (all_of (λ s. IsOneEvent t r s) rows (λ s g p q hazard etn.
    by_order rows t (by_key r s) r s refl up before.numbered h g p q (record { hazard = hazard; etn = etn })))))
