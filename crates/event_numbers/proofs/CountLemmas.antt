-- One more at the place of a count, or a count of one at its own place, draws one number.
use Rattle.std.proofs.Common.{◌≡◌, ◌∙◌, ◌==◌, ◌&&◌, ℕ, zero, suc, ◌+◌, ◌<◌, ◌≤◌, Bool, true, false, List, [], ◌∷◌, length, get_or, insert, slice_set, refl, ap, sym, arith, if◌then◌else◌, subst}
use Rattle.std.proofs.lemmas.Bool.{and_parts}
use Rattle.std.proofs.lemmas.Bool.Decides.{nat_tests}
use Rattle.hazard_types.specs.Same.{same_hazard}
use Rattle.hazard_types.specs.declared.hazard.Hazard.{Hazard}
use Rattle.hazard_types.proofs.Equality.{hazard_one}
use Rattle.hazard_types.specs.contracts.hazard.HazardEq.TheImpl.Laws as hazard_laws
use Rattle.event_numbers.specs.declared.Count.{Count}
use Rattle.event_numbers.specs.Counts.{count_of, is_count_of, DrawsOne, AreNumbers, IsPlaceOf, IsGapFor}
use Rattle.event_numbers.proofs.PlaceLemmas.{none_in_gap}

abbrev raised : Count → Count
raised c = record { hazard = c.hazard; year = c.year; count = c.count + 1 }

years : (m y z : ℕ) → (m == y) ≡ true → (m == z) ≡ (z == y)
years m y z h = grind (arith, nat_tests)

both_true : (a b : Bool) → a ≡ true → b ≡ true → (a && b) ≡ true
both_true a b p q = cc

either : (b : Bool) {n m : ℕ} → n ≤ 9999 → m ≤ 9999 → (if b then n else m) ≤ 9999
either true p q = p
either false p q = q

-- a count of one hazard and year is one of another exactly where these are the same
alike : (c : Count) (h g : Hazard) (y z : ℕ) → is_count_of h y c ≡ true → is_count_of g z c ≡ (same_hazard g h && (z == y))
alike c h g y z is =
    let p = and_parts (same_hazard c.hazard h) (c.year == y) is in
    let hazards : same_hazard c.hazard g ≡ same_hazard g h = hazard_laws.laws-law.congr c.hazard h g p.0 ∙ hazard_laws.laws-law.symm h g in
    let other : (c.year == z) ≡ (z == y) = years c.year y z p.1 in
    cc

more_here : (b d : Bool) (n m : ℕ) → b ≡ d → (if b then n + 1 else m) ≡ (if b then n else m) + (if d then 1 else 0)
more_here true d n m e = rw (sym e) refl
more_here false d n m e = rw (sym e) (omega arith)

one_here : (b d : Bool) → b ≡ d → (if b then 1 else 0) ≡ 0 + (if d then 1 else 0)
one_here true true e = refl
one_here false false e = refl
one_here _ _ e = cc

more_later : (b d : Bool) (n m k : ℕ) → (b ≡ true → d ≡ false) → m ≡ k + (if d then 1 else 0) → (if b then n else m) ≡ (if b then n else k) + (if d then 1 else 0)
more_later true d n m k never e = rw (never refl) (omega arith)
more_later false d n m k never e = e

turned : (h g : Hazard) (y z : ℕ) → (same_hazard h g && (y == z)) ≡ (same_hazard g h && (z == y))
turned h g y z =
    let hazards : same_hazard h g ≡ same_hazard g h = hazard_laws.laws-law.symm h g in
    let other : (y == z) ≡ (z == y) = grind (arith, nat_tests) in
    cc

-- what is no count of this hazard and year is one of another
not_other : (c : Count) (h g : Hazard) (y z : ℕ) → is_count_of h y c ≡ false → is_count_of g z c ≡ true → (same_hazard g h && (z == y)) ≡ false
not_other c h g y z other found = sym (turned h g y z) ∙ sym (alike c g h z y found) ∙ other

pub one_more_at : (h : Hazard) (y : ℕ) (cs : List Count) (i : ℕ) (d : Count) → i < length cs → is_count_of h y (get_or cs i d) ≡ true → ((k : ℕ) → k < i → is_count_of h y (get_or cs k d) ≡ false) → DrawsOne cs (slice_set cs i (raised (get_or cs i d))) h y
one_more_at h y [] i d within is before = absurd (omega arith)
one_more_at h y (c ∷ cs) zero d within is before = λ g z. more_here (is_count_of g z c) (same_hazard g h && (z == y)) c.count (count_of cs g z) (alike c h g y z is)
one_more_at h y (c ∷ cs) (suc i) d within is before = λ g z.
    more_later (is_count_of g z c) (same_hazard g h && (z == y)) c.count _ (count_of cs g z) (not_other c h g y z (before 0 (omega arith)))
    (one_more_at h y cs i d (omega arith) is (λ k lt. before (suc k) (omega arith)) g z)

-- the count at the place of a hazard and year
pub held_at : (h : Hazard) (y : ℕ) (cs : List Count) (i : ℕ) (d : Count) → i < length cs → is_count_of h y (get_or cs i d) ≡ true → ((k : ℕ) → k < i → is_count_of h y (get_or cs k d) ≡ false) → count_of cs h y ≡ (get_or cs i d).count
held_at h y [] i d within is before = absurd (omega arith)
held_at h y (c ∷ cs) zero d within is before = rw is refl
held_at h y (c ∷ cs) (suc i) d within is before = rw (before 0 (omega arith)) (held_at h y cs i d (omega arith) is (λ k lt. before (suc k) (omega arith)))

first_one : (b d : Bool) (n : ℕ) → b ≡ d → (d ≡ true → n ≡ 0) → (if b then 1 else n) ≡ n + (if d then 1 else 0)
first_one true true n e none = let zero_is = none refl in omega (arith, zero_is)
first_one false false n e none = omega arith
first_one _ _ n e none = cc

either_zero : (b : Bool) (n m : ℕ) → b ≡ false → m ≡ 0 → (if b then n else m) ≡ 0
either_zero true n m h z = cc
either_zero false n m h z = z

pub absent_count : (h : Hazard) (y : ℕ) (cs : List Count) → ((k : ℕ) (d : Count) → k < length cs → is_count_of h y (get_or cs k d) ≡ false) → count_of cs h y ≡ 0
absent_count h y [] none = refl
absent_count h y (c ∷ cs) none = either_zero (is_count_of h y c) c.count (count_of cs h y) (none 0 c (omega arith)) (absent_count h y cs (λ k d lt. none (suc k) d (omega (arith, lt))))

same_number : (a b : ℕ) → (a == b) ≡ true → a ≡ b
same_number a b h = grind (arith, nat_tests)

none_there : (h g : Hazard) (y z : ℕ) (cs : List Count) → (same_hazard g h && (z == y)) ≡ true → ((k : ℕ) (d : Count) → k < length cs → is_count_of h y (get_or cs k d) ≡ false) → count_of cs g z ≡ 0
none_there h g y z cs same none =
    let p = and_parts (same_hazard g h) (z == y) same in
    subst (λ (f : Hazard). count_of cs f z ≡ 0) (sym (hazard_one g h p.0)) (subst (λ (n : ℕ). count_of cs h n ≡ 0) (sym (same_number z y p.1)) (absent_count h y cs none))

inserted_at : (h : Hazard) (y : ℕ) (cs : List Count) (i : ℕ) → ((k : ℕ) (d : Count) → k < length cs → is_count_of h y (get_or cs k d) ≡ false) → DrawsOne cs (insert cs i (record { hazard = h; year = y; count = 1 })) h y
inserted_at h y [] zero none = λ g z.
    one_here (is_count_of g z (record { hazard = h; year = y; count = 1 })) (same_hazard g h && (z == y)) (alike (record { hazard = h; year = y; count = 1 }) h g y z (both_true _ _ (hazard_laws.laws-law.refl h) (grind (arith, nat_tests))))
inserted_at h y [] (suc i) none = λ g z.
    one_here (is_count_of g z (record { hazard = h; year = y; count = 1 })) (same_hazard g h && (z == y)) (alike (record { hazard = h; year = y; count = 1 }) h g y z (both_true _ _ (hazard_laws.laws-law.refl h) (grind (arith, nat_tests))))
inserted_at h y (c ∷ cs) zero none = λ g z.
    let one : Count = record { hazard = h; year = y; count = 1 } in
    first_one (is_count_of g z one) (same_hazard g h && (z == y)) (count_of (c ∷ cs) g z) (alike one h g y z (both_true _ _ (hazard_laws.laws-law.refl h) (grind (arith, nat_tests)))) (λ same. none_there h g y z (c ∷ cs) same none)
inserted_at h y (c ∷ cs) (suc i) none = λ g z.
    more_later (is_count_of g z c) (same_hazard g h && (z == y)) c.count _ (count_of cs g z) (not_other c h g y z (none 0 c (omega arith)))
    (inserted_at h y cs i (λ k d lt. none (suc k) d (omega (arith, lt))) g z)

pub opened : (h : Hazard) (y : ℕ) (cs : List Count) (i : ℕ) → IsGapFor h y cs i → DrawsOne cs (insert cs i (record { hazard = h; year = y; count = 1 })) h y
opened h y cs i gap = inserted_at h y cs i (none_in_gap h y cs i gap)

-- the count at the place of a hazard and year
pub held : (h : Hazard) (y : ℕ) (cs : List Count) (i : ℕ) (x : Count) → IsPlaceOf h y cs i → x ≡ get_or cs i x → count_of cs h y ≡ x.count
held h y cs i x place at = held_at h y cs i x place.within (place.found x) (λ k lt. place.before k x lt) ∙ ap (λ (w : Count). w.count) (sym at)

pub one_more : (h : Hazard) (y : ℕ) (cs : List Count) (i : ℕ) (x : Count) → IsPlaceOf h y cs i → x ≡ get_or cs i x → DrawsOne cs (slice_set cs i (record { hazard = x.hazard; year = x.year; count = x.count + 1 })) h y
one_more h y cs i x place at = subst (λ w. DrawsOne cs (slice_set cs i (raised w)) h y) (sym at) (one_more_at h y cs i x place.within (place.found x) (λ k lt. place.before k x lt))

pub numbers_set : (cs : List Count) (i : ℕ) (c : Count) → AreNumbers cs → c.count ≤ 9999 → AreNumbers (slice_set cs i c)
numbers_set [] i c all one = all
numbers_set (b ∷ cs) zero c all one = (one, all.1)
numbers_set (b ∷ cs) (suc i) c all one = (all.0, numbers_set cs i c all.1 one)

pub numbers_insert : (cs : List Count) (i : ℕ) (c : Count) → AreNumbers cs → c.count ≤ 9999 → AreNumbers (insert cs i c)
numbers_insert [] zero c all one = (one, tt)
numbers_insert [] (suc i) c all one = (one, tt)
numbers_insert (b ∷ cs) zero c all one = (one, all)
numbers_insert (b ∷ cs) (suc i) c all one = (all.0, numbers_insert cs i c all.1 one)

pub numbers_held : (cs : List Count) (h : Hazard) (y : ℕ) → AreNumbers cs → count_of cs h y ≤ 9999
numbers_held [] h y all = omega arith
numbers_held (c ∷ cs) h y all = either (is_count_of h y c) all.0 (numbers_held cs h y all.1)
