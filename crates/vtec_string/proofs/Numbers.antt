-- The number of four digits.
use Rattle.std.proofs.Common.{◌≡◌, ℕ, ◌≤◌, List, refl, ap, ◌∙◌, subst, arith, Some}
use Rattle.std.proofs.lemmas.Bool.{and_parts, leb-true, le-leb}
use Rattle.std.proofs.lemmas.Option.{cond_some}
use Rattle.std.proofs.lemmas.Slice.Eq.{bytes_eq-Decides}
use Rattle.hazard_types.specs.Digits.{four_digits}
use Rattle.vtec_string.specs.Columns.{number_in, number_at}

spelled_back : (n : ℕ) → n ≤ 9999 → number_in (four_digits n) ≡ n
spelled_back n le = omega arith

pub number_hit : (n : ℕ) → n ≤ 9999 → number_at (four_digits n) ≡ Some n
unfolding number_at
number_hit n le =
    let back = spelled_back n le in
    let small = le-leb n 9999 le in
    let whole = (bytes_eq-Decides (four_digits n) (four_digits n)).1 refl in
    rw (back, small, whole) refl

pub number_back : (text : List ℕ) (n : ℕ) → number_at text ≡ Some n → (n ≤ 9999) × (text ≡ four_digits n)
unfolding number_at
number_back text n h =
    let found = cond_some _ _ _ h in
    let parts = and_parts _ _ found.0 in
    let small : number_in text ≤ 9999 = leb-true _ _ parts.0 in
    let is : text ≡ four_digits (number_in text) = (bytes_eq-Decides _ _).0 parts.1 in
    (subst (λ (k : ℕ). k ≤ 9999) found.1 small, is ∙ ap four_digits found.1)
