-- Consistent rows stay so after a product that leaves no clash.
use Rattle.std.proofs.Common.{◌≡◌, ◌⊎◌, inl, inr, ◌∙◌, ◌&&◌, not, ℕ, ◌≤◌, List, [], ◌∷◌, Bool, true, false, Option, Some, None, Ordering, Less, Equal, Greater, refl, sym, ap, find, option_map, arith}
use Rattle.std.specs.List.{AllByRecursion}
use Rattle.std.specs.List.Sorted.{IsStrictlySortedBy}
use Rattle.std.specs.Option.{option_or}
use Rattle.std.specs.Ordering.{ordering_reverse}
use Rattle.std.proofs.lemmas.Bool.{and_parts, not-true, ltb-true, ltb-false, lt-ltb, false_from_ne_true, both_ways}
use Rattle.hazard_types.specs.Same.{same_zone, same_event}
use Rattle.hazard_types.specs.declared.codes.Family.{Family}
use Rattle.hazard_types.specs.declared.line.Line.{Line}
use Rattle.hazard_types.specs.declared.line.Row.{Row}
use Rattle.hazard_types.specs.declared.period.End.{End}
use Rattle.hazard_types.specs.declared.period.End.TheVariants.{At, Ufn}
use Rattle.hazard_types.specs.Hazards.{facts_of}
use Rattle.hazard_types.proofs.Equality.{zone_one, zone_itself, event_one, family_one, family_itself}
use Rattle.event_life.specs.Bounds.{IsBefore}
use Rattle.event_life.specs.Higher.{family_of, is_kin, are_kin}
use Rattle.event_life.specs.Periods.{ends_after, overlaps}
use Rattle.event_life.specs.Products.{by_key, rows_after}
use Rattle.event_life.proofs.Keys.{by_key-total, key_exact, key_ties}
use Rattle.event_life.proofs.Puts.{rows_after-sorted}
use Rattle.hazard_board.specs.Clashes.{clash, clash_of, first_clash, least_clash}
use Rattle.hazard_board.specs.Consistent.{collide, EachToLater, IsConsistent, AreOfTheYear}
use Rattle.hazard_board.proofs.Among.{IsAmong, of_all, all_of, none_found, of_each, each_of}
use Rattle.hazard_board.proofs.ClashLemmas.{first_is_least}
use Rattle.hazard_board.proofs.Origins.{WasCarriedOn, IsLeft, origin}

-- minutes before an end

from_before : (end : End) (t : ℕ) → IsBefore t end → ends_after end t ≡ true
from_before (At m) t h = lt-ltb t m h
from_before Ufn t h = refl

-- an end that is after a minute is after an earlier one
ends_after_earlier : (end : End) (t u : ℕ) → t ≤ u → ends_after end u ≡ true → ends_after end t ≡ true
ends_after_earlier (At m) t u le h = lt-ltb t m (omega (arith, ltb-true u m h))
ends_after_earlier Ufn t u le h = refl

-- a minute before an end that has come is before an end that has not
before_other : (past end : End) (t u : ℕ) → ends_after past t ≡ false → ends_after past u ≡ true → ends_after end t ≡ true → ends_after end u ≡ true
before_other (At m) end t u over h later = ends_after_earlier end u t (omega (arith, ltb-true u m h, ltb-false t m over)) later
before_other Ufn end t u over h later = cc

-- two rows that collide

record Collide (a b : Row) : Type 0 where
  zone : a.zone ≡ b.zone
  first_going : a.ended ≡ false
  second_going : b.ended ≡ false
  kin : are_kin a.event.hazard b.event.hazard ≡ true
  first_later : ends_after b.period.end a.period.begin ≡ true
  second_later : ends_after a.period.end b.period.begin ≡ true

collide_parts : (a b : Row) → collide a b ≡ true → Collide a b
collide_parts a b h =
    let p = and_parts (same_zone a.zone b.zone && not a.ended && not b.ended && overlaps a.period b.period) _ h in
    let q = and_parts (same_zone a.zone b.zone && not a.ended && not b.ended) _ p.0 in
    let r = and_parts (same_zone a.zone b.zone && not a.ended) _ q.0 in
    let s = and_parts (same_zone a.zone b.zone) _ r.0 in
    let o = and_parts (ends_after b.period.end a.period.begin) _ q.1 in
    record { zone = zone_one a.zone b.zone s.0; first_going = not-true a.ended s.1; second_going = not-true b.ended r.1; kin = p.1; first_later = o.0; second_later = o.1 }

from_parts : (a b : Row) → Collide a b → collide a b ≡ true
from_parts a b c = rw (c.zone, zone_itself b.zone, c.first_going, c.second_going, c.first_later, c.second_later) c.kin

is_kin-turned : (f g : Option (Family × ℕ)) → is_kin f g ≡ true → is_kin g f ≡ true
is_kin-turned None g h = cc
is_kin-turned (Some f) None h = cc
is_kin-turned (Some f) (Some g) h = rw (family_one f.0 g.0 h) (family_itself g.0)

turned : (a b : Row) → Collide a b → Collide b a
turned a b c = record {
  zone = sym c.zone;
  first_going = c.second_going;
  second_going = c.first_going;
  kin = is_kin-turned (family_of (facts_of a.event.hazard)) (family_of (facts_of b.event.hazard)) c.kin;
  first_later = c.second_later;
  second_later = c.first_later;
}

-- of rows in order

pub greater_less : (a b : Row) → by_key a b ≡ Greater → by_key b a ≡ Less
greater_less a b h = by_key-total.antisymm b a ∙ ap ordering_reverse h

abbrev AreApart : Row → Row → Type 0
AreApart a b = by_key a b ≡ Equal → ⊥

less_apart : (a b : Row) → by_key a b ≡ Less → AreApart a b
less_apart a b less tied = cc

apart_turned : (a b : Row) → AreApart a b → AreApart b a
apart_turned a b apart tied = let k = key_exact b a tied in apart (key_ties a b (sym k.0) (sym k.1))

-- no clash

or_none : {X : Type 0} (a b : Option X) → option_or a b ≡ None → (a ≡ None) × (b ≡ None)
or_none None b h = (refl, h)
or_none (Some x) b h = cc

map_none : {X Y : Type 0} (f : X → Y) (o : Option X) → option_map f o ≡ None → o ≡ None
map_none f None h = refl
map_none f (Some x) h = cc

none_clash : (t : ℕ) (rows : List Row) → first_clash t rows ≡ None → EachToLater (λ a b. clash t a b ≡ false) rows
none_clash t [] h = tt
none_clash t (row ∷ rows) h =
    let p = or_none (option_map (clash_of row) (find (clash t row) rows)) (first_clash t rows) h in
    (none_found (clash t row) rows (map_none (clash_of row) (find (clash t row) rows) p.0), none_clash t rows p.1)

live_clash : (t : ℕ) (a b : Row) → AreApart a b → Collide a b → ends_after a.period.end t ≡ true → ends_after b.period.end t ≡ true → clash t a b ≡ true
live_clash t a b apart c first second =
    let others : same_event a.event b.event ≡ false = false_from_ne_true _ (λ h. apart (key_ties a b c.zone (event_one a.event b.event h))) in
    rw (c.zone, zone_itself b.zone, c.first_going, c.second_going, first, second, c.first_later, c.second_later, others) c.kin

-- The rows before, consistent, and those after.
module _ (rows : List Row) (t : ℕ) (lines : List Line) (up : IsStrictlySortedBy by_key rows) (years : AreOfTheYear lines t) where
  abbrev IsAfter : Row → Type 0
  IsAfter r = IsAmong r (rows_after rows t lines)

  comes : (r : Row) → IsAfter r → IsAmong r rows ⊎ IsLeft rows t r
  comes r h = origin rows t lines years r up h

  module _ (before : IsConsistent rows t) where
    -- each row ends after its begin

    ends_left : (r : Row) → IsLeft rows t r → ends_after r.period.end r.period.begin ≡ true
    ends_left r (inl o) = from_before r.period.end r.period.begin o.length
    ends_left r (inr (inl (q, c))) = from_before r.period.end r.period.begin c.length
    ends_left r (inr (inr (q, c))) = rw c.period (of_all (λ (row : Row). ends_after row.period.end row.period.begin ≡ true) rows q before.ends c.among)

    ends_each : (r : Row) → IsAmong r rows ⊎ IsLeft rows t r → ends_after r.period.end r.period.begin ≡ true
    ends_each r (inl h) = of_all (λ (row : Row). ends_after row.period.end row.period.begin ≡ true) rows r before.ends h
    ends_each r (inr l) = ends_left r l

    pub ends_hold : AllByRecursion (λ (row : Row). ends_after row.period.end row.period.begin ≡ true) (rows_after rows t lines)
    ends_hold = all_of (λ (row : Row). ends_after row.period.end row.period.begin ≡ true) (rows_after rows t lines) (λ r h. ends_each r (comes r h))

    -- no two rows of a family that no line has ended overlap

    by_order : (o : Ordering) (a b : Row) → by_key a b ≡ o → AreApart a b → IsAmong a rows → IsAmong b rows → Collide a b → ⊥
    by_order Less a b is apart h g c = of_each (λ a b. collide a b ≡ true → ⊥) rows a b before.apart up h g is (from_parts a b c)
    by_order Equal a b is apart h g c = apart is
    by_order Greater a b is apart h g c = of_each (λ a b. collide a b ≡ true → ⊥) rows b a before.apart up g h (greater_less a b is) (from_parts b a (turned a b c))

    were_apart : (a b : Row) → AreApart a b → IsAmong a rows → IsAmong b rows → Collide a b → ⊥
    were_apart a b apart h g c = by_order (by_key a b) a b refl apart h g c

    -- a row that has lapsed is one of before
    lapsed_before : (r : Row) → IsAmong r rows ⊎ IsLeft rows t r → r.ended ≡ false → ends_after r.period.end t ≡ false → IsAmong r rows
    lapsed_before r (inl h) going over = h
    lapsed_before r (inr (inl o)) going over = absurd (both_ways _ over (ends_after_earlier r.period.end t r.period.begin o.begin (from_before r.period.end r.period.begin o.length)))
    lapsed_before r (inr (inr (inl (q, c)))) going over = absurd (both_ways _ over (from_before r.period.end t c.left))
    lapsed_before r (inr (inr (inr (q, c)))) going over = absurd (both_ways _ going c.ended)

    -- it overlaps no row that begins at the minute or later
    lapsed_early : (a b : Row) → ends_after a.period.end t ≡ false → t ≤ b.period.begin → Collide a b → ⊥
    lapsed_early a b over later c = both_ways _ over (ends_after_earlier a.period.end t b.period.begin later c.second_later)

    -- nor one with which a line carried on
    lapsed_carried : (a q b : Row) → AreApart a b → IsAmong a rows → ends_after a.period.end t ≡ false → WasCarriedOn rows t q b → b.period.begin ≡ q.period.begin → Collide a b → ⊥
    lapsed_carried a q b apart h over w same c =
        let begun = of_all (λ (row : Row). ends_after row.period.end row.period.begin ≡ true) rows a before.ends h in
        let own : Collide a q = record {
          zone = c.zone ∙ sym w.zone;
          first_going = c.first_going;
          second_going = w.was_going;
          kin = rw w.event c.kin;
          first_later = before_other a.period.end q.period.end t a.period.begin over begun (from_before q.period.end t w.was_live);
          second_later = rw (← same) c.second_later;
        } in
        were_apart a q (λ tied. let k = key_exact a q tied in apart (key_ties a b (k.0 ∙ w.zone) (k.1 ∙ w.event))) h w.among own

    lapsed_by_begin : (a q b : Row) → AreApart a b → IsAmong a rows → ends_after a.period.end t ≡ false → WasCarriedOn rows t q b → (t ≤ b.period.begin) ⊎ (b.period.begin ≡ q.period.begin) → Collide a b → ⊥
    lapsed_by_begin a q b apart h over w (inl later) c = lapsed_early a b over later c
    lapsed_by_begin a q b apart h over w (inr same) c = lapsed_carried a q b apart h over w same c

    lapsed_apart : (a b : Row) → AreApart a b → IsAmong a rows → ends_after a.period.end t ≡ false → IsAmong b rows ⊎ IsLeft rows t b → Collide a b → ⊥
    lapsed_apart a b apart h over (inl g) c = were_apart a b apart h g c
    lapsed_apart a b apart h over (inr (inl o)) c = lapsed_early a b over o.begin c
    lapsed_apart a b apart h over (inr (inr (inl (q, w)))) c = lapsed_by_begin a q b apart h over w w.begin c
    lapsed_apart a b apart h over (inr (inr (inr (q, w)))) c = both_ways _ c.second_going w.ended

    by_live : (first second : Bool) (a b : Row) → ends_after a.period.end t ≡ first → ends_after b.period.end t ≡ second → AreApart a b → IsAmong a rows ⊎ IsLeft rows t a → IsAmong b rows ⊎ IsLeft rows t b → clash t a b ≡ false → Collide a b → ⊥
    by_live true true a b p q apart h g none c = both_ways _ none (live_clash t a b apart c p q)
    by_live false second a b p q apart h g none c = lapsed_apart a b apart (lapsed_before a h c.first_going p) p g c
    by_live true false a b p q apart h g none c = lapsed_apart b a (apart_turned a b apart) (lapsed_before b g c.second_going q) q h (turned a b c)

    pub apart_hold : least_clash t (rows_after rows t lines) ≡ None → EachToLater (λ a b. collide a b ≡ true → ⊥) (rows_after rows t lines)
    apart_hold none =
        let sorted = rows_after-sorted rows t lines up in
        let clear = none_clash t (rows_after rows t lines) (first_is_least t (rows_after rows t lines) ∙ none) in
        each_of (λ a b. collide a b ≡ true → ⊥) (rows_after rows t lines) sorted (λ a b h g less c.
        by_live (ends_after a.period.end t) (ends_after b.period.end t) a b refl refl (less_apart a b less) (comes a h) (comes b g)
        (of_each (λ a b. clash t a b ≡ false) (rows_after rows t lines) a b clear sorted h g less) (collide_parts a b c))
