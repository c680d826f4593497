-- The month of a day of a year is that of its quotient by 32, or the next.
use Rattle.std.proofs.Common.{◌≡◌, ◌∙◌, ℕ, zero, suc, ◌<◌, ◌==◌, ◌&&◌, ◌%◌, ◌-◌, Bool, true, false, List, [], ◌∷◌, refl, ap, arith, cond, inl, inr, eqb-true, leb-true, slice_index, nat_le, ◌≤◌}
use Rattle.std.proofs.lemmas.Bool.{cases_lt}
use Rattle.hazard_types.specs.Calendar.{year_length, month_lengths, place_in, days_before, month_near}

-- where a day of a year lies by its quotient: its month, and how many days of the month come before it
unfoldable pub day_place : Bool → ℕ → ℕ × ℕ
day_place leap day = (month_near leap day, day - slice_index (days_before leap) (month_near leap day))

-- the lengths of the months, with and without a leap day
abbrev lengths : Bool → List ℕ
lengths leap = 31 ∷ cond leap 29 28 ∷ 31 ∷ 30 ∷ 31 ∷ 30 ∷ 31 ∷ 31 ∷ 30 ∷ 31 ∷ 30 ∷ 31 ∷ []

both : (a b : Bool) → (a && b) ≡ true → (a ≡ true) × (b ≡ true)
both true b e = (refl, e)
both false b e = cc

same_pair : (a b : ℕ × ℕ) → a.0 ≡ b.0 → a.1 ≡ b.1 → a ≡ b
same_pair a b p q = λ i. (p i, q i)

abbrev agrees : Bool → ℕ → Bool
agrees leap day = ((place_in (lengths leap) day).0 == (day_place leap day).0) && ((place_in (lengths leap) day).1 == (day_place leap day).1)

abbrev all_below : (ℕ → Bool) → ℕ → Bool
all_below p zero = true
all_below p (suc n) = p n && all_below p n

below : (p : ℕ → Bool) (n : ℕ) → all_below p n ≡ true → (k : ℕ) → k < n → p k ≡ true
below p zero all k less = absurd (omega arith)
below p (suc n) all k less =
    let parts = both (p n) (all_below p n) all in
    elim (cases_lt k n) [
      | inl lt ↦ below p n parts.1 k lt
      | inr le ↦ let same : k ≡ n = omega arith in ap p same ∙ parts.0
    ]

leap_days : all_below (agrees true) 366 ≡ true
unfolding day_place days_before
leap_days = refl

other_days : all_below (agrees false) 365 ≡ true
unfolding day_place days_before
other_days = refl

placed : (leap : Bool) (day : ℕ) → agrees leap day ≡ true → place_in (lengths leap) day ≡ day_place leap day
placed leap day e =
    let parts = both ((place_in (lengths leap) day).0 == (day_place leap day).0) ((place_in (lengths leap) day).1 == (day_place leap day).1) e in
    same_pair _ _ (eqb-true _ _ parts.0) (eqb-true _ _ parts.1)

by_leap : (leap : Bool) (day : ℕ) → day < cond leap 366 365 → place_in (lengths leap) day ≡ day_place leap day
by_leap true day less = placed true day (below (agrees true) 366 leap_days day less)
by_leap false day less = placed false day (below (agrees false) 365 other_days day less)

-- a day of a year lies where the quotients say
pub day_placed : (year day : ℕ) → day < year_length year → place_in (month_lengths year) day ≡ day_place (year % 4 == 0) day
unfolding month_lengths
day_placed year day less = by_leap (year % 4 == 0) day less

-- the days before the month are no more than the day
abbrev begun : Bool → ℕ → Bool
begun leap day = nat_le (slice_index (days_before leap) (month_near leap day)) day

leap_begun : all_below (begun true) 366 ≡ true
unfolding days_before
leap_begun = refl

other_begun : all_below (begun false) 365 ≡ true
unfolding days_before
other_begun = refl

begun_by : (leap : Bool) (day : ℕ) → day < cond leap 366 365 → begun leap day ≡ true
begun_by true day less = below (begun true) 366 leap_begun day less
begun_by false day less = below (begun false) 365 other_begun day less

pub near_before : (year day : ℕ) → day < year_length year → slice_index (days_before (year % 4 == 0)) (month_near (year % 4 == 0) day) ≤ day
near_before year day less = leb-true _ _ (begun_by (year % 4 == 0) day less)

shorter : (leap : Bool) (day : ℕ) → day < cond leap 366 365 → day < 366
shorter true day less = less
shorter false day less = omega arith

pub within_year : (year day : ℕ) → day < year_length year → day < 366
within_year year day less = shorter (year % 4 == 0) day less
