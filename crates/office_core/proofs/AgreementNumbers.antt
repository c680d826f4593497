-- Numbers that are counted on from those before.
use Rattle.std.proofs.Common.{◌≡◌, ◌∙◌, ℕ, zero, suc, ◌+◌, List, ◌∷◌, ◌++◌, length, refl, sym, ap, map, filter, arith}
use Rattle.std.specs.List.{count_by}
use Rattle.std.proofs.lemmas.List.{length-map, map-append}
use Rattle.std.proofs.lemmas.List.Elements.{filter-append}
use Rattle.std.proofs.lemmas.List.Sums.{length-filter}
use Rattle.hazard_types.specs.declared.hazard.Event.{Event}
use Rattle.hazard_types.specs.declared.hazard.Hazard.{Hazard}
use Rattle.event_life.specs.Openings.{counted_from, is_numbered, numbers_of}

pub counted_on : (n k m : ℕ) → counted_from n k ++ counted_from (n + k) m ≡ counted_from n (k + m)
counted_on n zero m = let e : n + 0 ≡ n = omega arith in let f : 0 + m ≡ m = omega arith in rw (e, f) refl
counted_on n (suc k) m =
    let e : n + suc k ≡ n + 1 + k = omega arith in
    let f : suc k + m ≡ suc (k + m) = omega arith in
    rw (e, f) (ap (λ (ns : List ℕ). n ∷ ns) (counted_on (n + 1) k m))

counted_many : (n k : ℕ) → length (counted_from n k) ≡ k
counted_many n zero = refl
counted_many n (suc k) = ap suc (counted_many (n + 1) k)

pub numbers_more : (h : Hazard) (year : ℕ) (xs ys : List Event) → numbers_of h year (xs ++ ys) ≡ numbers_of h year xs ++ numbers_of h year ys
numbers_more h year xs ys =
    ap (map (λ (e : Event). e.etn)) (filter-append (is_numbered h year) xs ys)
    ∙ map-append (λ (e : Event). e.etn) (filter (is_numbered h year) xs) (filter (is_numbered h year) ys)

-- as many numbers as there are events of the hazard and year
pub numbers_many : (h : Hazard) (year n k : ℕ) (events : List Event) → numbers_of h year events ≡ counted_from n k → k ≡ count_by (is_numbered h year) events
numbers_many h year n k events e =
    sym (counted_many n k) ∙ ap length (sym e) ∙ length-map (filter (is_numbered h year) events) (λ (x : Event). x.etn) ∙ length-filter (is_numbered h year) events
