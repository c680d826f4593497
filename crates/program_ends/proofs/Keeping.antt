-- What is kept of a line that is being read tells the line, or that it is too long.
use Rattle.std.proofs.Common.{ℕ, ◌≡◌, ◌<◌, ◌≤◌, ◌-◌, ◌+◌, ◌==◌, ◌&&◌, Bool, true, false, cond, List, [], ◌∷◌, ◌++◌, length, take, slice_index, nat_lt, None, refl, sym, ap, ◌∙◌, arith, length-append}
use Rattle.std.proofs.lemmas.Bool.Decides.{nat_tests}
use Rattle.std.proofs.lemmas.List.{take_all, take-append-le, length-take}
use Rattle.program_ends.specs.Lines.{Pending, pending_of, without_return, fit}

abbrev pub kept_with : List ℕ → Bool → Pending
kept_with kept longer = record { kept = kept; is_longer = longer }

same_kept : (a b : List ℕ) (x y : Bool) → a ≡ b → x ≡ y → kept_with a x ≡ kept_with b y
same_kept a b x y p q = rw (p, q) refl

short_test : (n m : ℕ) → m ≤ n → nat_lt n m ≡ false
short_test n m h = grind (arith, nat_tests)

long_test : (n m : ℕ) → n < m → nat_lt n m ≡ true
long_test n m h = grind (arith, nat_tests)

module _ (n : ℕ) (line : List ℕ) (c : ℕ) where
  one_longer : length (line ++ c ∷ []) ≡ length line + 1
  one_longer = length-append line (c ∷ [])

  short : length (take n line) < n → length line < n
  short h = omega (arith, length-take n line)

  short_kept : length (take n line) < n → take n line ++ c ∷ [] ≡ take n (line ++ c ∷ [])
  short_kept h = ap (λ (l : List ℕ). l ++ c ∷ []) (take_all n line (omega (arith, short h))) ∙ sym (take_all n (line ++ c ∷ []) (omega (arith, short h, one_longer)))

  short_longer : length (take n line) < n → nat_lt n (length line) ≡ nat_lt n (length (line ++ c ∷ []))
  short_longer h = short_test n (length line) (omega (arith, short h)) ∙ sym (short_test n (length (line ++ c ∷ [])) (omega (arith, short h, one_longer)))

  full_kept : n ≤ length (take n line) → take n line ≡ take n (line ++ c ∷ [])
  full_kept h = sym (take-append-le n line (c ∷ []) (omega (arith, length-take n line)))

  full_longer : n ≤ length (take n line) → true ≡ nat_lt n (length (line ++ c ∷ []))
  full_longer h = sym (long_test n (length (line ++ c ∷ [])) (omega (arith, length-take n line, one_longer)))

-- a byte more of a line that is kept whole
pub push_short : (p : Pending) (line : List ℕ) (c : ℕ) → p ≡ pending_of line → length p.kept ≤ 65536 → kept_with (p.kept ++ c ∷ []) p.is_longer ≡ pending_of (line ++ c ∷ [])
unfolding pending_of
push_short p line c e h =
    let kept : p.kept ≡ take 65537 line = ap (λ (q : Pending). q.kept) e in
    let longer : p.is_longer ≡ nat_lt 65537 (length line) = ap (λ (q : Pending). q.is_longer) e in
    let room : length (take 65537 line) < 65537 = omega (arith, h, ap length kept) in
    same_kept _ _ _ _ (ap (λ (l : List ℕ). l ++ c ∷ []) kept ∙ short_kept 65537 line c room) (longer ∙ short_longer 65537 line c room)

-- a byte more of a line of which enough is kept
pub push_full : (p : Pending) (line : List ℕ) (c : ℕ) → p ≡ pending_of line → 65536 < length p.kept → kept_with p.kept true ≡ pending_of (line ++ c ∷ [])
unfolding pending_of
push_full p line c e h =
    let kept : p.kept ≡ take 65537 line = ap (λ (q : Pending). q.kept) e in
    let room : 65537 ≤ length (take 65537 line) = omega (arith, h, ap length kept) in
    same_kept _ _ _ _ (kept ∙ full_kept 65537 line c room) (full_longer 65537 line c room)

test_longer : (n m : ℕ) → nat_lt n m ≡ true → n < m
test_longer n m h = grind (arith, nat_tests)

test_short : (n m : ℕ) → nat_lt n m ≡ false → m ≤ n
test_short n m h = grind (arith, nat_tests)

-- a line that has more than is kept of it is too long
pub unfit : (line : List ℕ) → 65536 < length line → None ≡ fit line
unfit line h = rw (long_test 65536 (length line) h) refl

without_return_length : (line : List ℕ) → length line ≤ length (without_return line) + 1
without_return_length line =
    elim (nat_lt 0 (length line) && (slice_index line (length line - 1) == 13)) as (λ t. length line ≤ length (cond t (take (length line - 1) line) line) + 1)
    [ true ↦ omega (arith, length-take (length line - 1) line) | false ↦ omega arith ]

pub longer_unfit : (p : Pending) (line : List ℕ) → p ≡ pending_of line → p.is_longer ≡ true → None ≡ fit line
unfolding pending_of
longer_unfit p line e h =
    let longer : p.is_longer ≡ nat_lt 65537 (length line) = ap (λ (q : Pending). q.is_longer) e in
    let over : 65537 < length line = test_longer 65537 (length line) (sym longer ∙ h) in
    unfit line (omega arith)

pub longer_unfit_ended : (p : Pending) (line : List ℕ) → p ≡ pending_of line → p.is_longer ≡ true → None ≡ fit (without_return line)
unfolding pending_of
longer_unfit_ended p line e h =
    let longer : p.is_longer ≡ nat_lt 65537 (length line) = ap (λ (q : Pending). q.is_longer) e in
    let over : 65537 < length line = test_longer 65537 (length line) (sym longer ∙ h) in
    unfit (without_return line) (omega (arith, without_return_length line))

-- a line that has no more than is kept of it is kept whole
pub all_kept : (p : Pending) (line : List ℕ) → p ≡ pending_of line → p.is_longer ≡ false → p.kept ≡ line
unfolding pending_of
all_kept p line e h =
    let longer : p.is_longer ≡ nat_lt 65537 (length line) = ap (λ (q : Pending). q.is_longer) e in
    let kept : p.kept ≡ take 65537 line = ap (λ (q : Pending). q.kept) e in
    kept ∙ take_all 65537 line (test_short 65537 (length line) (sym longer ∙ h))
