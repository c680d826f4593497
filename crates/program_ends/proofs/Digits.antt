-- A number only grows by further digits.
use Rattle.std.proofs.Common.{◌≡◌, ◌≤◌, ◌<◌, ◌+◌, ℕ, List, [], ◌∷◌, fold, drop, length, slice_index, suc, nat_le, Bool, true, false, cond, ◌&&◌, ◌∙◌, Option, Some, None, refl, ap, sym, subst, arith}
use Rattle.std.proofs.Math.Seq.{drop-cons}
use Rattle.std.proofs.lemmas.Bool.Decides.{nat_tests}
use Rattle.program_ends.specs.Numbers.{are_digits, number_in, spelled, with_digit}

pub grows : (n : ℕ) (digits : List ℕ) → n ≤ fold with_digit n digits
grows n [] = omega arith
grows n (c ∷ digits) = omega (arith, grows (with_digit n c) digits)

-- once it is above the most it stays so
pub stays_above : (n c most : ℕ) (digits : List ℕ) → nat_le (with_digit n c) most ≡ false → nat_le (fold with_digit n (c ∷ digits)) most ≡ false
stays_above n c most digits h = let g = grows (with_digit n c) digits in grind (arith, nat_tests, g, h)

none_given : (t : Bool) (n : ℕ) → ◌≡◌ {A = Option ℕ} (cond t (Some n) None) None → t ≡ false
none_given true n h = absurd (cc)
none_given false n h = refl

not_given : (a t : Bool) (n : ℕ) → t ≡ false → ◌≡◌ {A = Option ℕ} (cond (a && t) (Some n) None) None
not_given true true n h = absurd (cc)
not_given true false n h = refl
not_given false t n h = refl

drop_next : (place : ℕ) (word : List ℕ) → place < length word → drop place word ≡ slice_index word place ∷ drop (place + 1) word
drop_next place word h =
    let next : suc place ≡ place + 1 = omega arith in
    drop-cons word place 0 h ∙ ap (λ (k : ℕ). slice_index word place ∷ drop k word) next

-- where the digits so far spell a number that is above the most with the next one, so is the whole
pub too_great : (most n place : ℕ) (word : List ℕ) (given : Option ℕ) → fold with_digit n (drop place word) ≡ spelled word → place < length word
    → given ≡ cond (nat_le (with_digit n (slice_index word place)) most) (Some (with_digit n (slice_index word place))) None → given ≡ None → None ≡ number_in most word
too_great most n place word given whole within is none =
    let above = none_given (nat_le (with_digit n (slice_index word place)) most) (with_digit n (slice_index word place)) (sym is ∙ none) in
    let all : nat_le (fold with_digit n (slice_index word place ∷ drop (place + 1) word)) most ≡ false = stays_above n (slice_index word place) most (drop (place + 1) word) above in
    let spelt : fold with_digit n (slice_index word place ∷ drop (place + 1) word) ≡ spelled word = ap (fold with_digit n) (sym (drop_next place word within)) ∙ whole in
    let great : nat_le (spelled word) most ≡ false = subst (λ (m : ℕ). nat_le m most ≡ false) spelt all in
    sym (not_given (are_digits word) (nat_le (spelled word) most) (spelled word) great)
