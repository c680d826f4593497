-- The number of a zone tells it, and numbers are in order as their zones are.
use Rattle.std.proofs.Common.{◌≡◌, ◌∙◌, ◌&&◌, ℕ, ◌+◌, ◌*◌, ◌/◌, ◌%◌, ◌<◌, List, [], ◌∷◌, length, refl, sym, ap, arith}
use Rattle.std.specs.Prelude.{IsTrue, slice_index, nat_le}
use Rattle.std.specs.declared.cmp.Ordering.{Ordering}
use Rattle.std.specs.declared.cmp.Ordering.TheVariants.{Less, Equal, Greater}
use Rattle.std.specs.Ordering.{nat_cmp, ordering_then}
use Rattle.std.specs.Cmp.{nat_cmp_is}
use Rattle.std.specs.Cmp.Lexicographic.{slice_cmp}
use Rattle.std.proofs.lemmas.Bool.Decides.{nat_tests}
use Rattle.hazard_types.specs.Places.{Place, IsPlace, is_capital, kind_rank, by_place}
use Rattle.hazard_types.specs.declared.zone.Kind.{Kind}
use Rattle.hazard_types.specs.declared.zone.Kind.TheVariants.{C, Z}
use Rattle.zone_map.specs.Codes.{code_of, kind_of, find_index, code_back}

-- ---- from the number to the zone and back

kind_back : (k : Kind) → kind_of (kind_rank k) ≡ k
kind_back C = refl
kind_back Z = refl

rank_low : (k : Kind) → kind_rank k < 2
rank_low C = omega arith
rank_low Z = omega arith

two : (xs : List ℕ) → length xs ≡ 2 → slice_index xs 0 ∷ slice_index xs 1 ∷ [] ≡ xs
two [] h = absurd (omega arith)
two (a ∷ []) h = absurd (omega arith)
two (a ∷ b ∷ []) h = refl
two (a ∷ b ∷ d ∷ xs) h = absurd (omega arith)

-- two letters, a kind and a number, put together and taken apart
record AreParts (a b k n : ℕ) : Type 0 where
  front : (((a * 256 + b) * 2 + k) * 1024 + n) / 1024 ≡ (a * 256 + b) * 2 + k
  number : (((a * 256 + b) * 2 + k) * 1024 + n) % 1024 ≡ n
  letters : ((a * 256 + b) * 2 + k) / 2 ≡ a * 256 + b
  kind : ((a * 256 + b) * 2 + k) % 2 ≡ k
  first : (a * 256 + b) / 256 ≡ a
  second : (a * 256 + b) % 256 ≡ b

parts : (a b k n : ℕ) → b < 256 → k < 2 → n < 1024 → AreParts a b k n
parts a b k n lb lk ln = record {
  front = omega arith;
  number = omega arith;
  letters = omega arith;
  kind = omega arith;
  first = omega arith;
  second = omega arith;
}

-- the bounds of a zone's parts
pub record AreLow (p : Place) : Type 0 where
  pub second : slice_index p.state 1 < 256
  pub number : p.number < 1024

low_letters : (a b n : ℕ) → IsTrue (is_capital a && is_capital b && (nat_le 1 n && nat_le n 999)) → (b < 256) × (n < 1024)
low_letters a b n h = (grind (arith, nat_tests), grind (arith, nat_tests))

pub low : (p : Place) → IsPlace p → AreLow p
low p h = let both = low_letters (slice_index p.state 0) (slice_index p.state 1) p.number h.0 in record { second = both.0; number = both.1 }

pub place_back : (p : Place) → IsPlace p → find_index (code_of p) ≡ p
place_back p h =
    let bound = low p h in
    let x = parts (slice_index p.state 0) (slice_index p.state 1) (kind_rank p.kind) p.number bound.second (rank_low p.kind) bound.number in
    let letters : code_of p / 1024 / 2 ≡ slice_index p.state 0 * 256 + slice_index p.state 1 = ap (λ (c : ℕ). c / 2) x.front ∙ x.letters in
    let first : code_of p / 1024 / 2 / 256 ≡ slice_index p.state 0 = ap (λ (c : ℕ). c / 256) letters ∙ x.first in
    let second : code_of p / 1024 / 2 % 256 ≡ slice_index p.state 1 = ap (λ (c : ℕ). c % 256) letters ∙ x.second in
    let kind : kind_of (code_of p / 1024 % 2) ≡ p.kind = ap (λ (c : ℕ). kind_of (c % 2)) x.front ∙ ap kind_of x.kind ∙ kind_back p.kind in
    let state : code_of p / 1024 / 2 / 256 ∷ code_of p / 1024 / 2 % 256 ∷ [] ≡ p.state = ap (λ (c : ℕ). c ∷ code_of p / 1024 / 2 % 256 ∷ []) first ∙ ap (λ (c : ℕ). slice_index p.state 0 ∷ c ∷ []) second ∙ two p.state h.1 in
    λ i. record { state = state i; kind = kind i; number = x.number i }

-- ---- the order

lower : (x y : ℕ) → x < y → nat_cmp x y ≡ Less
lower x y h = sym (nat_cmp_is x y Less h)

same : (x : ℕ) → nat_cmp x x ≡ Equal
same x = sym (nat_cmp_is x x Equal refl)

higher : (x y : ℕ) → y < x → nat_cmp x y ≡ Greater
higher x y h = sym (nat_cmp_is x y Greater h)

letters_order : (a b x y : ℕ) → x < 256 → y < 256 → nat_cmp (a * 256 + x) (b * 256 + y) ≡ ordering_then (nat_cmp a b) (nat_cmp x y)
letters_order a b x y lx ly = grind (arith, nat_tests)

kind_order : (a b x y : ℕ) → x < 2 → y < 2 → nat_cmp (a * 2 + x) (b * 2 + y) ≡ ordering_then (nat_cmp a b) (nat_cmp x y)
kind_order a b x y lx ly = grind (arith, nat_tests)

number_order : (a b x y : ℕ) → x < 1024 → y < 1024 → nat_cmp (a * 1024 + x) (b * 1024 + y) ≡ ordering_then (nat_cmp a b) (nat_cmp x y)
number_order a b x y lx ly = grind (arith, nat_tests)

behind_none : (o : Ordering) → ordering_then o Equal ≡ o
behind_none Less = refl
behind_none Equal = refl
behind_none Greater = refl

three : (o p q : Ordering) → ordering_then (ordering_then o p) q ≡ ordering_then o (ordering_then p q)
three Less p q = refl
three Equal p q = refl
three Greater p q = refl

state_order : (xs ys : List ℕ) → length xs ≡ 2 → length ys ≡ 2 → ordering_then (nat_cmp (slice_index xs 0) (slice_index ys 0)) (nat_cmp (slice_index xs 1) (slice_index ys 1)) ≡ slice_cmp nat_cmp xs ys
state_order [] ys h k = absurd (omega arith)
state_order (a ∷ []) ys h k = absurd (omega arith)
state_order (a ∷ b ∷ d ∷ xs) ys h k = absurd (omega arith)
state_order (a ∷ b ∷ []) [] h k = absurd (omega arith)
state_order (a ∷ b ∷ []) (x ∷ []) h k = absurd (omega arith)
state_order (a ∷ b ∷ []) (x ∷ y ∷ z ∷ ys) h k = absurd (omega arith)
state_order (a ∷ b ∷ []) (x ∷ y ∷ []) h k = ap (ordering_then (nat_cmp a x)) (sym (behind_none (nat_cmp b y)))

pub order : (p q : Place) → IsPlace p → IsPlace q → nat_cmp (code_of p) (code_of q) ≡ by_place p q
order p q hp hq =
    let lp = low p hp in
    let lq = low q hq in
    let a = slice_index p.state 0 in
    let b = slice_index p.state 1 in
    let x = slice_index q.state 0 in
    let y = slice_index q.state 1 in
    let k = kind_rank p.kind in
    let l = kind_rank q.kind in
    number_order ((a * 256 + b) * 2 + k) ((x * 256 + y) * 2 + l) p.number q.number lp.number lq.number
    ∙ ap (λ (o : Ordering). ordering_then o (nat_cmp p.number q.number)) (kind_order (a * 256 + b) (x * 256 + y) k l (rank_low p.kind) (rank_low q.kind)
    ∙ ap (λ (o : Ordering). ordering_then o (nat_cmp k l)) (letters_order a x b y lp.second lq.second ∙ state_order p.state q.state hp.1 hq.1))
    ∙ three (slice_cmp nat_cmp p.state q.state) (nat_cmp k l) (nat_cmp p.number q.number)

-- of two numbers whose places are these
pub order_of : (c d : ℕ) → IsPlace (find_index c) → IsPlace (find_index d) → nat_cmp c d ≡ by_place (find_index c) (find_index d)
order_of c d hc hd =
    ap (λ (n : ℕ). nat_cmp n d) (sym (code_back c)) ∙ ap (nat_cmp (code_of (find_index c))) (sym (code_back d)) ∙ order (find_index c) (find_index d) hc hd
