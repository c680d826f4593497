-- A day stamp's six digits are read back, and no other text is read as one.
use Rattle.std.proofs.Common.{subst, ◌≡◌, ℕ, ◌+◌, ◌-◌, ◌*◌, ◌/◌, ◌%◌, ◌≤◌, true, List, ◌++◌, length, ap, ◌∙◌, arith, Some, IsTrue}
use Rattle.std.proofs.lemmas.Bool.{and_parts, eqb-true, leb-true}
use Rattle.std.proofs.lemmas.Bool.Decides.{nat_tests}
use Rattle.std.proofs.lemmas.Option.{cond_some}
use Rattle.std.proofs.lemmas.Slice.Eq.{text_from_reads}
use Rattle.hazard_types.specs.Calendar.{is_digit}
use Rattle.hazard_types.specs.Digits.{two_digits, is_day_stamp, day_text, six_digits, day_stamp_at, parse_day_stamp}
use Rattle.hazard_types.specs.declared.calendar.DayStamp.{DayStamp}

digit_range : (c : ℕ) → is_digit c ≡ true → (48 ≤ c) × (c ≤ 57)
digit_range c h = let t = and_parts _ _ h in (leb-true _ _ t.0, leb-true _ _ t.1)

two_back : (x y : ℕ) → is_digit x ≡ true → is_digit y ≡ true → (x ≡ 48 + (10 * (x - 48) + (y - 48)) / 10) × (y ≡ 48 + (10 * (x - 48) + (y - 48)) % 10)
two_back x y h g = let a = digit_range x h in let b = digit_range y g in (omega arith, omega arith)

pub day_stamp_back : (text : List ℕ) (d : DayStamp) → parse_day_stamp text ≡ Some d → IsTrue (is_day_stamp d) × (text ≡ day_text d)
unfolding parse_day_stamp
day_stamp_back text d h =
    let found = cond_some _ (day_stamp_at text) d h in
    let tests = and_parts _ _ found.0 in
    let t5 = and_parts _ _ tests.0 in
    let t4 = and_parts _ _ t5.0 in
    let t3 = and_parts _ _ t4.0 in
    let t2 = and_parts _ _ t3.0 in
    let t1 = and_parts _ _ t2.0 in
    let t0 = and_parts _ _ t1.0 in
    let len : length text ≡ 6 = eqb-true _ _ t0.0 in
    let day = two_back _ _ t0.1 t1.1 in
    let hour = two_back _ _ t2.1 t3.1 in
    let minute = two_back _ _ t4.1 t5.1 in
    let spelled : text ≡ day_text (day_stamp_at text) = text_from_reads text _ len (day.0, (day.1, (hour.0, (hour.1, (minute.0, (minute.1, tt)))))) in
    subst (λ (e : DayStamp). IsTrue (is_day_stamp e) × (text ≡ day_text e)) found.1 (tests.1, spelled)

two_read : (n : ℕ) → 10 * ((48 + n / 10) - 48) + ((48 + n % 10) - 48) ≡ n
two_read n = omega arith

day_digits : (a b c : ℕ) → a ≤ 31 → b ≤ 23 → c ≤ 59 → six_digits (two_digits a ++ two_digits b ++ two_digits c) ≡ true
day_digits a b c p q r = grind (arith, nat_tests)

pub day_stamp_read : (d : DayStamp) → is_day_stamp d ≡ true → parse_day_stamp (day_text d) ≡ Some d
unfolding parse_day_stamp
day_stamp_read d h =
    let t3 = and_parts _ _ h in
    let t2 = and_parts _ _ t3.0 in
    let t1 = and_parts _ _ t2.0 in
    let day : d.day ≤ 31 = leb-true _ _ t1.1 in
    let hour : d.hour ≤ 23 = leb-true _ _ t2.1 in
    let minute : d.minute ≤ 59 = leb-true _ _ t3.1 in
    let digits : six_digits (day_text d) ≡ true = day_digits d.day d.hour d.minute day hour minute in
    let same : day_stamp_at (day_text d) ≡ d = λ i. record { day = two_read d.day i; hour = two_read d.hour i; minute = two_read d.minute i } in
    let stamped : is_day_stamp (day_stamp_at (day_text d)) ≡ true = ap is_day_stamp same ∙ h in
    rw (digits, stamped) (ap (λ (x : DayStamp). Some x) same)

pub day_stamp_is_read : (text : List ℕ) (d : DayStamp) → is_day_stamp d ≡ true → text ≡ day_text d → parse_day_stamp text ≡ Some d
day_stamp_is_read text d h e = ap parse_day_stamp e ∙ day_stamp_read d h
