use Rattle.std.proofs.Common.{◌≡◌, ◌∙◌, sym, arith, true, false, ap, ℕ, ◌+◌, ◌*◌, Some}
use Rattle.jiff_core.proofs.SignedLemmas.{signed_arith}
use Rattle.desk_clock.specs.LocalTimes.{local_minutes}
use Rattle.desk_clock.proofs.ShownDates.{from_date, Parts, none_of, shown_is}
use Rattle.desk_clock.proofs.local_times.local_minutes.Goals as goal
use Rattle.desk_clock.proofs.local_times.local_minutes.Goals.{then-t-gt23-via-then-t-gt23, then-t-gt23-via-else-t-gt23+then-t-gt59}

pub returns-then-t-gt23-clause-value : goal.returns-then-t-gt23-clause-value
returns-then-t-gt23-clause-value c = sym (none_of (local_minutes c.args.t) (λ s e.
    let shows = shown_is c.args.t s e in
    let hour = shows.hour in
    let minute = shows.minute in
    elim c.then-t-gt23.branch [
      | then-t-gt23-via-then-t-gt23 w ↦ omega arith
      | then-t-gt23-via-else-t-gt23+then-t-gt59 w ↦ omega arith
    ]))

pub returns-in_err-date-clause-value : goal.returns-in_err-date-clause-value
returns-in_err-date-clause-value c = c.from_residual.ensures ∙ sym (none_of (local_minutes c.args.t) (λ s e.
    let both : false ≡ true = c.in_err-date.ensures.test ∙ (shown_is c.args.t s e).date in
    cc))

pub returns-in_err-days-clause-value : goal.returns-in_err-days-clause-value
returns-in_err-days-clause-value c = c.from_residual-in_err-days.ensures ∙ sym (none_of (local_minutes c.args.t) (λ s e.
    let d = c.in_ok-date.ensures.date in
    let parts : Parts c.args.t c.in_ok-date.date = record { year = d.0; month = d.1; day = d.2 } in
    let late = (shown_is c.args.t s e).late c.in_ok-date.date parts in
    omega (arith, signed_arith, late, c.in_err-days.ensures)))

pub overflow_mul-result : goal.overflow_mul-result
overflow_mul-result c =
    let d = c.in_ok-date.ensures.date in
    let years = c.in_ok-date.ensures.years in
    let parts : Parts c.args.t c.in_ok-date.date = record { year = d.0; month = d.1; day = d.2 } in
    let found = from_date c.args.t c.in_ok-date.date c.in_ok-days.days parts years.0 years.1 (omega arith) (omega arith) c.in_ok-days.ensures in
    omega (arith, found.1)

pub overflow_add-result : goal.overflow_add-result
overflow_add-result c =
    let d = c.in_ok-date.ensures.date in
    let years = c.in_ok-date.ensures.years in
    let parts : Parts c.args.t c.in_ok-date.date = record { year = d.0; month = d.1; day = d.2 } in
    let found = from_date c.args.t c.in_ok-date.date c.in_ok-days.days parts years.0 years.1 (omega arith) (omega arith) c.in_ok-days.ensures in
    omega (arith, found.1)

pub overflow_add-result-2 : goal.overflow_add-result-2
overflow_add-result-2 c =
    let d = c.in_ok-date.ensures.date in
    let years = c.in_ok-date.ensures.years in
    let parts : Parts c.args.t c.in_ok-date.date = record { year = d.0; month = d.1; day = d.2 } in
    let found = from_date c.args.t c.in_ok-date.date c.in_ok-days.days parts years.0 years.1 (omega arith) (omega arith) c.in_ok-days.ensures in
    omega (arith, found.1)

pub returns-clause-value : goal.returns-clause-value
returns-clause-value c =
    let d = c.in_ok-date.ensures.date in
    let years = c.in_ok-date.ensures.years in
    let parts : Parts c.args.t c.in_ok-date.date = record { year = d.0; month = d.1; day = d.2 } in
    let same : c.in_ok-days.days * 1440 + c.from.result * 60 + c.from-2.result ≡ c.in_ok-days.days * 1440 + c.args.t.hour * 60 + c.args.t.minute = omega arith in
    ap (λ (n : ℕ). Some n) same ∙ sym ((from_date c.args.t c.in_ok-date.date c.in_ok-days.days parts years.0 years.1 (omega arith) (omega arith) c.in_ok-days.ensures).0)

pub returns-clause-range : goal.returns-clause-range
returns-clause-range c =
    let d = c.in_ok-date.ensures.date in
    let years = c.in_ok-date.ensures.years in
    let parts : Parts c.args.t c.in_ok-date.date = record { year = d.0; month = d.1; day = d.2 } in
    let found = from_date c.args.t c.in_ok-date.date c.in_ok-days.days parts years.0 years.1 (omega arith) (omega arith) c.in_ok-days.ensures in
    omega (arith, found.1)
