-- Standing events by hazard and number.
use Rattle.std.proofs.Common.{◌≡◌, ◌≢◌, ◌∙◌, ◌==◌, ℕ, zero, suc, List, [], ◌∷◌, Bool, true, false, Ordering, Less, Equal, Greater, refl, sym, ap, cond, take, drop, is_eq, arith}
use Rattle.std.specs.List.{AllByRecursion}
use Rattle.std.specs.List.Sorted.{IsStrictlySortedBy}
use Rattle.std.specs.Ordering.{nat_cmp, ordering_then}
use Rattle.std.proofs.lemmas.Bool.Decides.{nat_tests}
use Rattle.std.proofs.lemmas.Cmp.{nat_cmp_total, tied_itself}
use Rattle.std.proofs.lemmas.List.Elements.{filter_agree}
use Rattle.hazard_types.specs.Orders.{by_hazard}
use Rattle.hazard_types.specs.Same.{same_hazard}
use Rattle.hazard_types.specs.declared.hazard.Hazard.{Hazard}
use Rattle.hazard_types.proofs.Equality.{hazard_one, hazard_itself}
use Rattle.hazard_types.proofs.OrderLaws.{by_hazard_total, by_hazard_ties}
use Rattle.hazard_board.specs.Standing.{by_standing, by_number, of_hazard, of_number}
use Rattle.hazard_board.specs.declared.standing.Standing.{Standing}
use Rattle.hazard_board.proofs.Places.{first_less, alike, is_tied}
use Rattle.hazard_board.proofs.Runs.{rises, run, front, back}

pub hazard_never_falls : (a b : Standing) → by_standing a b ≡ Less → by_hazard a.event.hazard b.event.hazard ≢ Greater
hazard_never_falls a b less = first_less (by_hazard a.event.hazard b.event.hazard) _ less

pub number_never_falls : (a b : Standing) → by_number a b ≡ Less → nat_cmp a.event.etn b.event.etn ≢ Greater
number_never_falls a b less = first_less (nat_cmp a.event.etn b.event.etn) _ less

hazard_tied : (a b : Hazard) → is_eq (by_hazard a b) ≡ same_hazard a b
hazard_tied a b = alike _ _
    (λ h. let same = by_hazard_ties a b (is_tied (by_hazard a b) h) in rw same (hazard_itself b))
    (λ h. ap is_eq (ap (λ (g : Hazard). by_hazard a g) (sym (hazard_one a b h)) ∙ tied_itself by_hazard_total a))

number_tied : (a b : ℕ) → is_eq (nat_cmp a b) ≡ (a == b)
number_tied a b = grind (arith, nat_tests)

-- runs

pub hazard_run : (h : Hazard) (standing : List Standing) → IsStrictlySortedBy by_standing standing →
    take (back (λ (s : Standing). by_hazard s.event.hazard h) (drop (front (λ (s : Standing). by_hazard s.event.hazard h) standing) standing)) (drop (front (λ (s : Standing). by_hazard s.event.hazard h) standing) standing) ≡ of_hazard h standing
hazard_run h standing up =
    run (λ s. by_hazard s.event.hazard h) standing (rises by_hazard_total by_standing (λ s. s.event.hazard) hazard_never_falls h standing up)
    ∙ filter_agree (λ s. is_eq (by_hazard s.event.hazard h)) (λ s. same_hazard s.event.hazard h) (λ s. hazard_tied s.event.hazard h) standing

pub number_run : (etn : ℕ) (standing : List Standing) → IsStrictlySortedBy by_number standing →
    take (back (λ (s : Standing). nat_cmp s.event.etn etn) (drop (front (λ (s : Standing). nat_cmp s.event.etn etn) standing) standing)) (drop (front (λ (s : Standing). nat_cmp s.event.etn etn) standing) standing) ≡ of_number etn standing
number_run etn standing up =
    run (λ s. nat_cmp s.event.etn etn) standing (rises nat_cmp_total by_number (λ s. s.event.etn) number_never_falls etn standing up)
    ∙ filter_agree (λ s. is_eq (nat_cmp s.event.etn etn)) (λ s. s.event.etn == etn) (λ s. number_tied s.event.etn etn) standing

-- what is left of a list in order is in order
pub left_sorted : {X : Type 0} (R : X → X → Ordering) (xs : List X) (i : ℕ) → IsStrictlySortedBy R xs → IsStrictlySortedBy R (drop i xs)
unfolding IsStrictlySortedBy
left_sorted R xs zero up = up
left_sorted R [] (suc i) up = tt
left_sorted R (x ∷ xs) (suc i) up = left_sorted R xs i up.1

pub hazard_left : (standing : List Standing) (i : ℕ) → IsStrictlySortedBy by_standing standing → IsStrictlySortedBy by_standing (drop i standing)
hazard_left = left_sorted by_standing

pub number_left : (standing : List Standing) (i : ℕ) → IsStrictlySortedBy by_number standing → IsStrictlySortedBy by_number (drop i standing)
number_left = left_sorted by_number

-- those of a hazard stand by number, then year

number_less : (a b : Standing) (h : Hazard) → same_hazard a.event.hazard h ≡ true → same_hazard b.event.hazard h ≡ true → by_standing a b ≡ Less → by_number a b ≡ Less
number_less a b h p q less =
    let same : a.event.hazard ≡ b.event.hazard = hazard_one a.event.hazard h p ∙ sym (hazard_one b.event.hazard h q) in
    let tie : by_hazard a.event.hazard b.event.hazard ≡ Equal = ap (λ (g : Hazard). by_hazard a.event.hazard g) (sym same) ∙ tied_itself by_hazard_total a.event.hazard in
    sym (ap (λ (o : Ordering). ordering_then o (by_number a b)) tie) ∙ less

kept_above : (h : Hazard) (a : Standing) (standing : List Standing) → same_hazard a.event.hazard h ≡ true → AllByRecursion (λ s. by_standing a s ≡ Less) standing → AllByRecursion (λ s. by_number a s ≡ Less) (of_hazard h standing)
kept_above h a [] own above = tt
kept_above h a (b ∷ standing) own above =
    let step : (keep : Bool) → same_hazard b.event.hazard h ≡ keep → AllByRecursion (λ s. by_number a s ≡ Less) (cond keep (b ∷ of_hazard h standing) (of_hazard h standing)) =
    λ k. elim k as (λ k. same_hazard b.event.hazard h ≡ k → AllByRecursion (λ s. by_number a s ≡ Less) (cond k (b ∷ of_hazard h standing) (of_hazard h standing))) [
      | true ↦ λ e. (number_less a b h own e above.0, kept_above h a standing own above.1)
      | false ↦ λ e. kept_above h a standing own above.1
    ] in
    step (same_hazard b.event.hazard h) refl

pub hazard_by_number : (h : Hazard) (standing : List Standing) → IsStrictlySortedBy by_standing standing → IsStrictlySortedBy by_number (of_hazard h standing)
unfolding IsStrictlySortedBy
hazard_by_number h [] up = tt
hazard_by_number h (a ∷ standing) up =
    let step : (keep : Bool) → same_hazard a.event.hazard h ≡ keep → IsStrictlySortedBy by_number (cond keep (a ∷ of_hazard h standing) (of_hazard h standing)) =
    λ k. elim k as (λ k. same_hazard a.event.hazard h ≡ k → IsStrictlySortedBy by_number (cond k (a ∷ of_hazard h standing) (of_hazard h standing))) [
      | true ↦ λ e. (kept_above h a standing e up.0, hazard_by_number h standing up.1)
      | false ↦ λ e. hazard_by_number h standing up.1
    ] in
    step (same_hazard a.event.hazard h) refl
