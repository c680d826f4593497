-- A number that is cut to a cap at each digit is the number cut to the cap.
use Rattle.std.proofs.Common.{◌≡◌, ℕ, suc, ◌+◌, ◌-◌, ◌*◌, ◌<◌, ◌≤◌, ◌⊎◌, inl, inr, List, [], ◌∷◌, length, min, drop, get_or, ap, arith}
use Rattle.std.proofs.lemmas.Bool.{cases_lt}
use Rattle.std.proofs.Math.Seq.{drop-cons}
use Rattle.warn_http.specs.Numbers.{number_from}

-- digits do not make a number smaller
grows : (n : ℕ) (digits : List ℕ) → n ≤ number_from n digits
grows n [] = omega arith
grows n (d ∷ digits) = omega (arith, grows (10 * n + (d - 48)) digits)

pub capped_from : (cap n : ℕ) (digits : List ℕ)
    → min cap (number_from (min cap n) digits) ≡ min cap (number_from n digits)
capped_from cap n digits = of (cases_lt n cap)
  where
    of : ((n < cap) ⊎ (cap ≤ n)) → min cap (number_from (min cap n) digits) ≡ min cap (number_from n digits)
    of (inl low) = let e : min cap n ≡ n = omega arith in ap (λ (m : ℕ). min cap (number_from m digits)) e
    of (inr high) =
        let a = grows n digits in
        let b = grows (min cap n) digits in
        omega arith

-- one digit more
pub capped_step : (cap n i : ℕ) (digits : List ℕ) → i < length digits
    → min cap (number_from (min cap (10 * n + (get_or digits i 0 - 48))) (drop (i + 1) digits))
    ≡ min cap (number_from n (drop i digits))
capped_step cap n i digits low =
    let e : drop i digits ≡ get_or digits i 0 ∷ drop (suc i) digits = drop-cons digits i 0 low in
    let f : i + 1 ≡ suc i = omega arith in
    rw (e, f) (capped_from cap (10 * n + (get_or digits i 0 - 48)) (drop (suc i) digits))
