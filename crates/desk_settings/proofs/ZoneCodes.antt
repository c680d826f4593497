-- The order of zones is the order of their codes.
use Rattle.std.proofs.Common.{ℕ, ◌≡◌, ◌<◌, ◌≤◌, ◌+◌, ◌-◌, ◌*◌, ◌==◌, Bool, true, false, cond, List, [], ◌∷◌, length, slice_index, nat_lt, Some, None, option_map, refl, ap, sym, ◌∙◌, arith}
use Rattle.std.specs.declared.cmp.Ordering.{Ordering}
use Rattle.std.specs.declared.cmp.Ordering.TheVariants.{Less, Equal, Greater}
use Rattle.std.specs.Ordering.{nat_cmp, ordering_then, MatchOrdering}
use Rattle.std.specs.Cmp.{nat_cmp_is}
use Rattle.std.specs.Cmp.Lexicographic.{slice_cmp}
use Rattle.std.proofs.lemmas.Cmp.{ranked}
use Rattle.std.proofs.lemmas.Bool.Decides.{nat_tests}
use Rattle.std.proofs.lemmas.Slice.Eq.{text_from_reads}
use Rattle.hazard_types.specs.Calendar.{is_digit}
use Rattle.hazard_types.specs.Places.{Place, IsPlace, is_capital, kind_rank, by_place}
use Rattle.hazard_types.specs.declared.zone.Kind.{Kind}
use Rattle.hazard_types.specs.declared.zone.Kind.TheVariants.{C, Z}
use Rattle.hazard_types.specs.Names.{zone_at, kind_at, three_at}
use Rattle.hazard_types.proofs.Inverting.{map_some, zone_parts, place_with, zone_ok}

abbrev number : ℕ → ℕ → ℕ → ℕ
number d e f = 100 * (d - 48) + 10 * (e - 48) + (f - 48)

abbrev IsDigitCode : ℕ → Type 0
IsDigitCode c = (48 ≤ c) × (c ≤ 57)

numbers : (o p q : Ordering) (d e f d' e' f' : ℕ) → IsDigitCode d → IsDigitCode e → IsDigitCode f → IsDigitCode d' → IsDigitCode e' → IsDigitCode f'
    → o ≡ nat_cmp d d' → p ≡ nat_cmp e e' → q ≡ nat_cmp f f'
    → MatchOrdering (ordering_then o (ordering_then p (ordering_then q Equal))) (number d e f < number d' e' f') (number d e f ≡ number d' e' f') (number d' e' f' < number d e f)
numbers Less p q d e f d' e' f' i1 i2 i3 i4 i5 i6 h1 h2 h3 = omega (arith, ranked d d' Less h1)
numbers Greater p q d e f d' e' f' i1 i2 i3 i4 i5 i6 h1 h2 h3 = omega (arith, ranked d d' Greater h1)
numbers Equal Less q d e f d' e' f' i1 i2 i3 i4 i5 i6 h1 h2 h3 = omega (arith, ranked d d' Equal h1, ranked e e' Less h2)
numbers Equal Greater q d e f d' e' f' i1 i2 i3 i4 i5 i6 h1 h2 h3 = omega (arith, ranked d d' Equal h1, ranked e e' Greater h2)
numbers Equal Equal Less d e f d' e' f' i1 i2 i3 i4 i5 i6 h1 h2 h3 = omega (arith, ranked d d' Equal h1, ranked e e' Equal h2, ranked f f' Less h3)
numbers Equal Equal Greater d e f d' e' f' i1 i2 i3 i4 i5 i6 h1 h2 h3 = omega (arith, ranked d d' Equal h1, ranked e e' Equal h2, ranked f f' Greater h3)
numbers Equal Equal Equal d e f d' e' f' i1 i2 i3 i4 i5 i6 h1 h2 h3 = omega (arith, ranked d d' Equal h1, ranked e e' Equal h2, ranked f f' Equal h3)

-- a code has the parts of its zone
pub record IsCode (bs : List ℕ) (p : Place) : Type 0 where
  pub text : bs ≡ slice_index bs 0 ∷ slice_index bs 1 ∷ slice_index bs 2 ∷ slice_index bs 3 ∷ slice_index bs 4 ∷ slice_index bs 5 ∷ []
  pub state : p.state ≡ slice_index bs 0 ∷ slice_index bs 1 ∷ []
  pub kind : kind_at (slice_index bs 2) ≡ Some p.kind
  pub hundreds : IsDigitCode (slice_index bs 3)
  pub tens : IsDigitCode (slice_index bs 4)
  pub ones : IsDigitCode (slice_index bs 5)
  pub number_is : p.number ≡ number (slice_index bs 3) (slice_index bs 4) (slice_index bs 5)
  pub place : IsPlace p

digit_code : (c : ℕ) → is_digit c ≡ true → IsDigitCode c
digit_code c h = let low : 48 ≤ c = grind (arith, nat_tests) in let high : c ≤ 57 = grind (arith, nat_tests) in (low, high)

six_is : (n : ℕ) → (n == 6) ≡ true → n ≡ 6
six_is n h = grind (arith, nat_tests)

pub six_read : (bs : List ℕ) → length bs ≡ 6 → bs ≡ slice_index bs 0 ∷ slice_index bs 1 ∷ slice_index bs 2 ∷ slice_index bs 3 ∷ slice_index bs 4 ∷ slice_index bs 5 ∷ []
six_read bs h = text_from_reads bs (slice_index bs 0 ∷ slice_index bs 1 ∷ slice_index bs 2 ∷ slice_index bs 3 ∷ slice_index bs 4 ∷ slice_index bs 5 ∷ []) h (refl, (refl, (refl, (refl, (refl, (refl, tt))))))

-- a zone's code has its parts
pub code_parts : (bs : List ℕ) (p : Place) → zone_at bs ≡ Some p → IsCode bs p
unfolding zone_at
code_parts bs p h =
    let t = zone_parts (length bs == 6) (is_capital (slice_index bs 0)) (is_capital (slice_index bs 1)) (is_digit (slice_index bs 3)) (is_digit (slice_index bs 4)) (is_digit (slice_index bs 5)) (nat_lt 0 (three_at bs 3))
    (option_map (place_with bs) (kind_at (slice_index bs 2))) p h in
    let k = map_some (kind_at (slice_index bs 2)) (place_with bs) p t.7 in
    let kind_is : k.0 ≡ p.kind = ap (λ (q : Place). q.kind) k.2 in
    let d3 = digit_code (slice_index bs 3) t.3 in
    let d4 = digit_code (slice_index bs 4) t.4 in
    let d5 = digit_code (slice_index bs 5) t.5 in
    record {
      text = six_read bs (six_is (length bs) t.0);
      state = sym (ap (λ (q : Place). q.state) k.2);
      kind = k.1 ∙ ap (λ (c : Kind). Some c) kind_is;
      hundreds = d3;
      tens = d4;
      ones = d5;
      number_is = sym (ap (λ (q : Place). q.number) k.2);
      place = zone_ok bs p h;
    }

regrouped : (o p r : Ordering) → ordering_then o (ordering_then p r) ≡ ordering_then (ordering_then o (ordering_then p Equal)) r
regrouped Less p r = refl
regrouped Greater p r = refl
regrouped Equal Less r = refl
regrouped Equal Greater r = refl
regrouped Equal Equal r = refl

kind_code : Kind → ℕ
kind_code C = 67
kind_code Z = 90

kind_found : (t u : Bool) (c : ℕ) (k : Kind) → (t ≡ true → c ≡ 67) → (u ≡ true → c ≡ 90) → cond t (Some C) (cond u (Some Z) None) ≡ Some k → c ≡ kind_code k
unfolding kind_code
kind_found true u c k f g h = let same : C ≡ k = cc in f refl ∙ ap kind_code same
kind_found false true c k f g h = let same : Z ≡ k = cc in g refl ∙ ap kind_code same
kind_found false false c k f g h = absurd (cc)

code_is : (c n : ℕ) → (c == n) ≡ true → c ≡ n
code_is c n h = grind (arith, nat_tests)

kind_is : (c : ℕ) (k : Kind) → kind_at c ≡ Some k → c ≡ kind_code k
kind_is c k h = kind_found (c == 67) (c == 90) c k (code_is c 67) (code_is c 90) h

kinds_alike : (k k' : Kind) → nat_cmp (kind_code k) (kind_code k') ≡ nat_cmp (kind_rank k) (kind_rank k')
unfolding kind_code
kinds_alike C C = refl
kinds_alike C Z = refl
kinds_alike Z C = refl
kinds_alike Z Z = refl

numbers_alike : (d e f d' e' f' : ℕ) → IsDigitCode d → IsDigitCode e → IsDigitCode f → IsDigitCode d' → IsDigitCode e' → IsDigitCode f'
    → ordering_then (nat_cmp d d') (ordering_then (nat_cmp e e') (ordering_then (nat_cmp f f') Equal)) ≡ nat_cmp (number d e f) (number d' e' f')
numbers_alike d e f d' e' f' i1 i2 i3 i4 i5 i6 =
    nat_cmp_is (number d e f) (number d' e' f') _ (numbers (nat_cmp d d') (nat_cmp e e') (nat_cmp f f') d e f d' e' f' i1 i2 i3 i4 i5 i6 refl refl refl)

-- codes are compared as their zones are
pub codes_alike : (bs bs' : List ℕ) (p p' : Place) → IsCode bs p → IsCode bs' p' → slice_cmp nat_cmp bs bs' ≡ by_place p p'
codes_alike bs bs' p p' a b =
    let k : nat_cmp (slice_index bs 2) (slice_index bs' 2) ≡ nat_cmp (kind_rank p.kind) (kind_rank p'.kind) = rw (kind_is (slice_index bs 2) p.kind a.kind, kind_is (slice_index bs' 2) p'.kind b.kind) (kinds_alike p.kind p'.kind) in
    let n = numbers_alike (slice_index bs 3) (slice_index bs 4) (slice_index bs 5) (slice_index bs' 3) (slice_index bs' 4) (slice_index bs' 5) a.hundreds a.tens a.ones b.hundreds b.tens b.ones in
    rw (a.text, b.text) (rw (k, n, ← a.number_is, ← b.number_is) (rw (a.state, b.state) (regrouped (nat_cmp (slice_index bs 0) (slice_index bs' 0)) (nat_cmp (slice_index bs 1) (slice_index bs' 1)) (ordering_then (nat_cmp (kind_rank p.kind) (kind_rank p'.kind)) (nat_cmp p.number p'.number)))))
