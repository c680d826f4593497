-- Counts with the numbers of some events drawn.
use Rattle.std.proofs.Common.{◌≡◌, ◌∙◌, ◌==◌, ◌+◌, ℕ, Bool, true, false, List, [], ◌∷◌, ap, arith, refl, cond, count_by}
use Rattle.std.proofs.lemmas.Bool.{and_parts, eqb-true}
use Rattle.std.proofs.lemmas.List.Sums.{sum_by-append}
use Rattle.hazard_types.specs.Same.{same_hazard}
use Rattle.hazard_types.specs.declared.hazard.Event.{Event}
use Rattle.hazard_types.specs.declared.hazard.Hazard.{Hazard}
use Rattle.hazard_types.proofs.Equality.{hazard_one}
use Rattle.event_numbers.specs.declared.Count.{Count}
use Rattle.event_numbers.specs.Counts.{DrawsAll, count_of, is_of}

abbrev counted : Bool → ℕ
counted b = cond b 1 0

-- one number more of the event's hazard and year
abbrev with_one : List Count → Event → List Count
with_one counts e = record { hazard = e.hazard; year = e.year; count = count_of counts e.hazard e.year + 1 } ∷ counts

one_step : (counts : List Count) (e : Event) (h : Hazard) (year : ℕ) (b : Bool) → is_of h year e ≡ b
    → cond b (count_of counts e.hazard e.year + 1) (count_of counts h year) ≡ count_of counts h year + counted b
one_step counts e h year true is =
    let p = and_parts (same_hazard e.hazard h) (e.year == year) is in
    (λ i. count_of counts (hazard_one e.hazard h p.0 i) (eqb-true e.year year p.1 i) + 1)
one_step counts e h year false is = omega arith

one_more : (counts : List Count) (e : Event) (h : Hazard) (year : ℕ) → count_of (with_one counts e) h year ≡ count_of counts h year + counted (is_of h year e)
one_more counts e h year = one_step counts e h year (is_of h year e) refl

counted_on : (h : Hazard) (year : ℕ) (e : Event) (events : List Event) → count_by (is_of h year) (e ∷ events) ≡ counted (is_of h year e) + count_by (is_of h year) events
counted_on h year e events =
    let one : count_by (is_of h year) (e ∷ []) ≡ counted (is_of h year e) = omega arith in
    sum_by-append (λ (d : Event). counted (is_of h year d)) (e ∷ []) events ∙ ap (λ (n : ℕ). n + count_by (is_of h year) events) one

pub drawn_all : (counts : List Count) (events : List Event) → (after : List Count) × DrawsAll counts after events
drawn_all counts [] = (counts, λ h year. omega arith)
drawn_all counts (e ∷ events) =
    let more = drawn_all (with_one counts e) events in
    (more.0, λ h year. omega (arith, more.1 h year, one_more counts e h year, counted_on h year e events))
