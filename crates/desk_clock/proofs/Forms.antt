-- A line of the form says what its words say.
use Rattle.std.proofs.Common.{◌≡◌, List, ℕ, Some}
use Rattle.desk_clock.specs.declared.reading.Written.{Written}
use Rattle.desk_clock.specs.LocalForm.{IsForm, written_in}
use Rattle.desk_clock.proofs.Parting.{first_of, after_of, after_optional}

pub form_says : (b : List ℕ) (w : Written) → IsForm b w → written_in b ≡ Some w
unfolding written_in
form_says b w f =
    let half = after_of f.clock b f.from_half f.first in
    let letters = after_of f.half f.from_half f.from_letters f.second in
    let aside = after_of f.letters f.from_letters f.from_aside f.third in
    let weekday = after_optional f.from_aside f.from_weekday f.aside in
    let month = after_of f.weekday f.from_weekday f.from_month f.fourth in
    let day = after_of f.month f.from_month f.from_day f.fifth in
    let year = after_of f.day f.from_day f.year f.sixth in
    rw (
      half,
      letters,
      aside,
      weekday,
      month,
      day,
      year,
      first_of f.clock b f.from_half f.first,
      first_of f.half f.from_half f.from_letters f.second,
      first_of f.letters f.from_letters f.from_aside f.third,
      first_of f.weekday f.from_weekday f.from_month f.fourth,
      first_of f.month f.from_month f.from_day f.fifth,
      first_of f.day f.from_day f.year f.sixth,
    )
    f.says
