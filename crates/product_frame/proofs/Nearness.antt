-- The test of nearness decides.
use Rattle.std.proofs.Common.{◌≡◌, ℕ, zero, suc, ◌+◌, ◌-◌, ◌<◌, ◌≤◌, ◌==◌, Bool, true, false, refl, ap, sym, ◌∙◌, arith, subst, inl, inr, IsTrue, ◌↔◌}
use Rattle.std.specs.Prelude.{min}
use Rattle.std.proofs.lemmas.Bool.{cases_Bool, and_parts, and_from, eqb-true, eq-eqb, or_cases, or_left, or_right}
use Rattle.hazard_types.specs.Days.{day_stamp_of}
use Rattle.hazard_types.specs.declared.calendar.DayStamp.{DayStamp}
use Rattle.desk_clock.specs.DayStamps.{IsNear}
use Rattle.product_frame.specs.Nearness.{are_same, is_among, is_near}

same_back : (d e : DayStamp) → are_same d e ≡ true → d ≡ e
same_back d e h =
    let a = and_parts _ _ h in
    let b = and_parts _ _ a.1 in
    let day : d.day ≡ e.day = eqb-true _ _ a.0 in
    let hour : d.hour ≡ e.hour = eqb-true _ _ b.0 in
    let minute : d.minute ≡ e.minute = eqb-true _ _ b.1 in
    λ i. record { day = day i; hour = hour i; minute = minute i }

same_self : (d : DayStamp) → are_same d d ≡ true
same_self d = and_from _ _ (eq-eqb d.day d.day refl) (and_from _ _ (eq-eqb d.hour d.hour refl) (eq-eqb d.minute d.minute refl))

among_back : (m k : ℕ) (d : DayStamp) → is_among m k d ≡ true → (n : ℕ) × (m ≤ n) × (n < m + k) × (day_stamp_of n ≡ d)
unfolding is_among
among_back m zero d h = absurd (cc)
among_back m (suc k) d h =
    elim (or_cases (are_same (day_stamp_of m) d) (is_among (m + 1) k d) h) [
      | inl e ↦ (m, omega arith, omega arith, same_back _ _ e)
      | inr e ↦ let r = among_back (m + 1) k d e in
          let low : m + 1 ≤ r.0 = r.1 in
          let high : r.0 < m + 1 + k = r.2 in
          (r.0, omega arith, omega arith, r.3)
    ]

among_hit : (m k n : ℕ) (d : DayStamp) → m ≤ n → n < m + k → day_stamp_of n ≡ d → is_among m k d ≡ true
unfolding is_among
among_hit m zero n d low high e = absurd (omega arith)
among_hit m (suc k) n d low high e =
    elim (cases_Bool (m == n)) [
      | inl same ↦ or_left _ _ (subst (λ (x : DayStamp). are_same (day_stamp_of m) x ≡ true) (ap day_stamp_of (eqb-true m n same) ∙ e) (same_self (day_stamp_of m)))
      | inr other ↦
          let apart : m ≡ n → ⊥ = λ x. absurd (differ m n other x) in
          let next : m + 1 ≤ n = below m n low apart in
          or_right _ _ (among_hit (m + 1) k n d next (omega arith) e)
    ]
  where
    differ : (a b : ℕ) → (a == b) ≡ false → a ≡ b → ⊥
    differ a b f x = let t : (a == b) ≡ true = eq-eqb a b x in cc

    below : (a b : ℕ) → a ≤ b → (a ≡ b → ⊥) → a + 1 ≤ b
    below a b le ne = omega (arith, ne)

near_back : (issue : ℕ) (d : DayStamp) → is_near issue d ≡ true → IsNear issue d
unfolding is_near
near_back issue d h =
    let r = among_back (issue - 720) (min (issue + 721) 52596000 - (issue - 720)) d h in
    let low : issue - 720 ≤ r.0 = r.1 in
    let high : r.0 < issue - 720 + (min (issue + 721) 52596000 - (issue - 720)) = r.2 in
    (r.0, omega arith, omega arith, omega arith, r.3)

near_hit : (issue : ℕ) (d : DayStamp) → IsNear issue d → is_near issue d ≡ true
unfolding is_near
near_hit issue d h =
    let range : h.0 < 52596000 = h.1 in
    let low : issue ≤ h.0 + 720 = h.2 in
    let high : h.0 ≤ issue + 720 = h.3 in
    among_hit (issue - 720) (min (issue + 721) 52596000 - (issue - 720)) h.0 d (omega arith) (omega arith) h.4

pub near_decides : (issue : ℕ) (d : DayStamp) → (is_near issue d ≡ true → IsNear issue d) × (IsNear issue d → is_near issue d ≡ true)
near_decides issue d = (near_back issue d, near_hit issue d)

pub near_is : (issue : ℕ) (d : DayStamp) (r : Bool) → (IsTrue r ↔ IsNear issue d) → r ≡ is_near issue d
near_is issue d true h = sym (near_hit issue d (h.0 refl))
near_is issue d false h = elim (cases_Bool (is_near issue d)) [
  | inl e ↦ let t : false ≡ true = h.1 (near_back issue d e) in absurd (cc)
  | inr e ↦ sym e
]
