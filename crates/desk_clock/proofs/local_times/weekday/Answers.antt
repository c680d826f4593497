use Rattle.std.proofs.Common.{◌≡◌, ◌/◌, ◌+◌, ◌%◌, ℕ, ap, ◌∙◌, arith, pos, ◌+ℤ◌, refl}
use Rattle.jiff_core.specs.Calendar.{weekday_number}
use Rattle.jiff_core.specs.Date.{epoch_day}
use Rattle.jiff_core.proofs.CalendarLemmas.{weekday_number-add}
use Rattle.jiff_core.proofs.SignedLemmas.{signed_arith}
use Rattle.jiff_tz.proofs.OnLiterals.{jiff_tz_rules_on_literals}
use Rattle.desk_clock.proofs.local_times.weekday.Goals as goal

-- 1999-12-31 was a Friday
a_friday : weekday_number (pos 10956) ≡ 4
unfolding jiff_tz_rules_on_literals
a_friday = refl

pub returns : goal.returns
returns c =
    let day = c.args.shown / 1440 in
    let d = c.from_days_since_min.result in
    let e : epoch_day d ≡ pos 10956 +ℤ pos day = omega (arith, signed_arith) in
    let at : weekday_number (epoch_day d) ≡ (weekday_number (pos 10956) + day) % 7 = weekday_number-add (pos 10956) (epoch_day d) day e in
    let number : weekday_number (pos 10956) ≡ 4 = a_friday in
    c.weekday.ensures ∙ at ∙ ap (λ (n : ℕ). n % 7) (omega (arith, number))
