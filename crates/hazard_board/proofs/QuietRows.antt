-- Rows that clash with none: those that do not collide, and those that are not live or have no family.
use Rattle.std.proofs.Common.{◌≡◌, ◌∙◌, ◌&&◌, not, ℕ, List, [], ◌∷◌, Bool, true, false, Option, Some, None, refl, sym, ap, cond, filter, find, is_some, option_map}
use Rattle.std.specs.List.{AllByRecursion}
use Rattle.std.specs.Option.{option_or}
use Rattle.std.proofs.lemmas.Bool.{and_parts, and_from, false_from_ne_true}
use Rattle.hazard_types.specs.Hazards.{facts_of}
use Rattle.hazard_types.specs.Places.{Place}
use Rattle.hazard_types.specs.Same.{same_zone, same_event}
use Rattle.hazard_types.specs.declared.codes.Family.{Family}
use Rattle.hazard_types.specs.declared.line.Clash.{Clash}
use Rattle.hazard_types.specs.declared.line.Line.{Line}
use Rattle.hazard_types.specs.declared.line.Row.{Row}
use Rattle.event_life.specs.Higher.{family_of, is_kin, are_kin}
use Rattle.event_life.specs.Periods.{is_live, overlaps}
use Rattle.hazard_board.specs.Board.{slice_of}
use Rattle.hazard_board.specs.Clashes.{clash, clash_of, first_clash, may_clash}
use Rattle.hazard_board.specs.Consistent.{collide, EachToLater}
use Rattle.hazard_board.specs.Taken.{rows_taken}
use Rattle.hazard_board.proofs.SliceLemmas.{names_zone, taken_else}

-- what two rows that clash are

record Clashing (t : ℕ) (a b : Row) : Type 0 where
  zone : same_zone a.zone b.zone ≡ true
  first : is_live t a ≡ true
  second : is_live t b ≡ true
  over : overlaps a.period b.period ≡ true
  kin : are_kin a.event.hazard b.event.hazard ≡ true

clash_parts : (t : ℕ) (a b : Row) → clash t a b ≡ true → Clashing t a b
clash_parts t a b h =
    let p = and_parts (same_zone a.zone b.zone && is_live t a && is_live t b && overlaps a.period b.period && not (same_event a.event b.event)) _ h in
    let q = and_parts (same_zone a.zone b.zone && is_live t a && is_live t b && overlaps a.period b.period) _ p.0 in
    let r = and_parts (same_zone a.zone b.zone && is_live t a && is_live t b) _ q.0 in
    let s = and_parts (same_zone a.zone b.zone && is_live t a) _ r.0 in
    let u = and_parts (same_zone a.zone b.zone) _ s.0 in
    record { zone = u.0; first = u.1; second = s.1; over = r.1; kin = p.1 }

-- both are live
pub clash_live : (t : ℕ) (a b : Row) → clash t a b ≡ true → (is_live t a ≡ true) × (is_live t b ≡ true)
clash_live t a b h = let c = clash_parts t a b h in (c.first, c.second)

pub clash_collides : (t : ℕ) (a b : Row) → clash t a b ≡ true → collide a b ≡ true
clash_collides t a b h =
    let c = clash_parts t a b h in
    let first = and_parts (not a.ended) _ c.first in
    let second = and_parts (not b.ended) _ c.second in
    and_from _ _ (and_from _ _ (and_from _ _ (and_from _ _ c.zone first.0) second.0) c.over) c.kin

kin_first : (f g : Option (Family × ℕ)) → is_kin f g ≡ true → is_some f ≡ true
kin_first None g h = cc
kin_first (Some f) None h = cc
kin_first (Some f) (Some g) h = refl

kin_second : (f g : Option (Family × ℕ)) → is_kin f g ≡ true → is_some g ≡ true
kin_second None g h = cc
kin_second (Some f) None h = cc
kin_second (Some f) (Some g) h = refl

first_may : (t : ℕ) (a b : Row) → clash t a b ≡ true → may_clash t a ≡ true
first_may t a b h = let c = clash_parts t a b h in and_from _ _ c.first (kin_first (family_of (facts_of a.event.hazard)) (family_of (facts_of b.event.hazard)) c.kin)

second_may : (t : ℕ) (a b : Row) → clash t a b ≡ true → may_clash t b ≡ true
second_may t a b h = let c = clash_parts t a b h in and_from _ _ c.second (kin_second (family_of (facts_of a.event.hazard)) (family_of (facts_of b.event.hazard)) c.kin)

both_ways : (b : Bool) → b ≡ true → b ≡ false → ⊥
both_ways true h g = cc
both_ways false h g = cc

-- rows that do not collide do not clash

abbrev IsApart : List Row → Type 0
IsApart rows = EachToLater (λ a b. collide a b ≡ true → ⊥) rows

none_with : (t : ℕ) (row : Row) (rows : List Row) → AllByRecursion (λ b. collide row b ≡ true → ⊥) rows → find (clash t row) rows ≡ None
none_with t row [] all = refl
none_with t row (r ∷ rows) all =
    let quiet : clash t row r ≡ false = false_from_ne_true _ (λ h. all.0 (clash_collides t row r h)) in
    rw quiet (none_with t row rows all.1)

none_clash : (t : ℕ) (rows : List Row) → IsApart rows → first_clash t rows ≡ None
none_clash t [] all = refl
none_clash t (row ∷ rows) all = rw (none_with t row rows all.0) (none_clash t rows all.1)

all_of_zone : (P : Row → Type 0) (z : Place) (rows : List Row) → AllByRecursion P rows → AllByRecursion P (slice_of z rows)
all_of_zone P z [] all = tt
all_of_zone P z (r ∷ rows) all =
    let step : (b : Bool) → AllByRecursion P (cond b (r ∷ slice_of z rows) (slice_of z rows)) =
    λ b. elim b as (λ b. AllByRecursion P (cond b (r ∷ slice_of z rows) (slice_of z rows))) [
      | true ↦ (all.0, all_of_zone P z rows all.1)
      | false ↦ all_of_zone P z rows all.1
    ] in
    step (same_zone r.zone z)

apart_in_zone : (z : Place) (rows : List Row) → IsApart rows → IsApart (slice_of z rows)
apart_in_zone z [] all = tt
apart_in_zone z (r ∷ rows) all =
    let step : (b : Bool) → IsApart (cond b (r ∷ slice_of z rows) (slice_of z rows)) =
    λ b. elim b as (λ b. IsApart (cond b (r ∷ slice_of z rows) (slice_of z rows))) [
      | true ↦ (all_of_zone (λ y. collide r y ≡ true → ⊥) z rows all.0, apart_in_zone z rows all.1)
      | false ↦ apart_in_zone z rows all.1
    ] in
    step (same_zone r.zone z)

-- zones that no line names have no clash
pub quiet_elsewhere : (t : ℕ) (rows : List Row) (lines : List Line) (z : Place) → EachToLater (λ a b. collide a b ≡ true → ⊥) rows → names_zone z lines ≡ false → first_clash t (slice_of z (rows_taken rows t lines)) ≡ None
quiet_elsewhere t rows lines z apart h = ap (first_clash t) (taken_else z rows t lines rows h) ∙ none_clash t (slice_of z rows) (apart_in_zone z rows apart)

-- of rows that may clash the first clash is that of all

first_quiet : (t : ℕ) (a b : Row) → may_clash t a ≡ false → clash t a b ≡ false
first_quiet t a b is = false_from_ne_true _ (λ h. both_ways _ (first_may t a b h) is)

second_quiet : (t : ℕ) (a b : Row) → may_clash t b ≡ false → clash t a b ≡ false
second_quiet t a b is = false_from_ne_true _ (λ h. both_ways _ (second_may t a b h) is)

find_quiet : (t : ℕ) (a : Row) (rows : List Row) → may_clash t a ≡ false → find (clash t a) rows ≡ None
find_quiet t a [] is = refl
find_quiet t a (b ∷ rows) is = rw (first_quiet t a b is) (find_quiet t a rows is)

find_among : (t : ℕ) (a : Row) (rows : List Row) → find (clash t a) (filter (may_clash t) rows) ≡ find (clash t a) rows
find_among t a [] = refl
find_among t a (b ∷ rows) =
    let step : (c : Bool) → may_clash t b ≡ c → find (clash t a) (cond c (b ∷ filter (may_clash t) rows) (filter (may_clash t) rows)) ≡ find (clash t a) (b ∷ rows) =
    λ c. elim c as (λ c. may_clash t b ≡ c → find (clash t a) (cond c (b ∷ filter (may_clash t) rows) (filter (may_clash t) rows)) ≡ find (clash t a) (b ∷ rows)) [
      | true ↦ λ is. ap (λ (o : Option Row). cond (clash t a b) (Some b) o) (find_among t a rows)
      | false ↦ λ is. find_among t a rows ∙ ap (λ (d : Bool). cond d (Some b) (find (clash t a) rows)) (sym (second_quiet t a b is))
    ] in
    step (may_clash t b) refl

pub first_among : (t : ℕ) (rows : List Row) → first_clash t (filter (may_clash t) rows) ≡ first_clash t rows
first_among t [] = refl
first_among t (a ∷ rows) =
    let step : (c : Bool) → may_clash t a ≡ c → first_clash t (cond c (a ∷ filter (may_clash t) rows) (filter (may_clash t) rows)) ≡ first_clash t (a ∷ rows) =
    λ c. elim c as (λ c. may_clash t a ≡ c → first_clash t (cond c (a ∷ filter (may_clash t) rows) (filter (may_clash t) rows)) ≡ first_clash t (a ∷ rows)) [
      | true ↦ λ is.
          ap (λ (o : Option Row). option_or (option_map (clash_of a) o) (first_clash t (filter (may_clash t) rows))) (find_among t a rows)
          ∙ ap (λ (o : Option Clash). option_or (option_map (clash_of a) (find (clash t a) rows)) o) (first_among t rows)
      | false ↦ λ is. first_among t rows ∙ sym (ap (λ (o : Option Row). option_or (option_map (clash_of a) o) (first_clash t rows)) (find_quiet t a rows is))
    ] in
    step (may_clash t a) refl
