-- Numbers that are drawn one after another.
use Rattle.std.proofs.Common.{◌≡◌, ◌∙◌, ◌==◌, ◌&&◌, ◌+◌, ◌≤◌, ◌<◌, ℕ, suc, Bool, List, [], ◌∷◌, ◌++◌, length, count_by, take, drop, get_or, drop-cons, sym, ap, arith, if◌then◌else◌}
use Rattle.std.proofs.lemmas.Bool.Decides.{nat_tests}
use Rattle.std.proofs.lemmas.List.{take_more, take-append-drop}
use Rattle.std.proofs.lemmas.List.Sums.{sum_by-append}
use Rattle.hazard_types.specs.Same.{same_hazard}
use Rattle.hazard_types.specs.declared.hazard.Event.{Event}
use Rattle.hazard_types.specs.declared.hazard.Hazard.{Hazard}
use Rattle.hazard_types.specs.contracts.hazard.HazardEq.TheImpl.Laws as hazard_laws
use Rattle.event_numbers.specs.declared.Count.{Count}
use Rattle.event_numbers.specs.Counts.{count_of, is_of, AreDrawnInOrder}

turned : (a b : ℕ) → (a == b) ≡ (b == a)
turned a b = grind (arith, nat_tests)

counted_one : (p : Event → Bool) (e : Event) → count_by p (e ∷ []) ≡ (if p e then 1 else 0)
counted_one p e = omega arith

pub drawn_more : (h : Hazard) (year : ℕ) (start old new : List Count) (e : Event) (events : List Event) (i : ℕ) → i < length events → e ≡ get_or events i e →
    count_of old h year ≡ count_of start h year + count_by (is_of h year) (take i events) →
    count_of new h year ≡ count_of old h year + (if same_hazard h e.hazard && (year == e.year) then 1 else 0) →
    count_of new h year ≡ count_of start h year + count_by (is_of h year) (take (i + 1) events)
drawn_more h year start old new e events i within is so_far drawn =
    let counted : Bool → ℕ = λ b. (if b then 1 else 0) in
    let test : (same_hazard h e.hazard && (year == e.year)) ≡ is_of h year e = ap (λ (b : Bool). b && (year == e.year)) (hazard_laws.laws-law.symm h e.hazard) ∙ ap (λ (b : Bool). same_hazard e.hazard h && b) (turned year e.year) in
    let cut : take (i + 1) events ≡ take i events ++ e ∷ [] = take_more events i e within ∙ ap (λ (x : Event). take i events ++ x ∷ []) (sym is) in
    let more : count_by (is_of h year) (take (i + 1) events) ≡ count_by (is_of h year) (take i events) + counted (is_of h year e) =
    ap (λ (some : List Event). count_by (is_of h year) some) cut
    ∙ sum_by-append (λ (d : Event). counted (is_of h year d)) (take i events) (e ∷ [])
    ∙ ap (λ (n : ℕ). count_by (is_of h year) (take i events) + n) (counted_one (is_of h year) e) in
    let one : counted (same_hazard h e.hazard && (year == e.year)) ≡ counted (is_of h year e) = ap counted test in
    omega (arith, so_far, drawn, more, one)

pub number_fits : (start old : List Count) (e : Event) (events : List Event) (i : ℕ) → i < length events → e ≡ get_or events i e → AreDrawnInOrder start events →
    count_of old e.hazard e.year ≡ count_of start e.hazard e.year + count_by (is_of e.hazard e.year) (take i events) → count_of old e.hazard e.year + 1 ≤ 9999
number_fits start old e events i within is drawn so_far =
    let front : drop i events ≡ e ∷ drop (suc i) events = drop-cons events i e within ∙ ap (λ (x : Event). x ∷ drop (suc i) events) (sym is) in
    let cut : events ≡ take i events ++ e ∷ drop (suc i) events = sym (ap (λ (l : List Event). take i events ++ l) (sym front) ∙ take-append-drop i events) in
    omega (arith, so_far, drawn (take i events) (drop (suc i) events) e cut)
