use Rattle.std.proofs.Common.{◌≡◌, ◌/◌, ◌+◌, arith, subst, sym, FitsSigned, w16, pos}
use Rattle.std.proofs.lemmas.Int.{to_z-of_z}
use Rattle.jiff_core.proofs.SignedLemmas.{signed_arith}
use Rattle.jiff_core.specs.Date.{epoch_day}
use Rattle.desk_clock.specs.LocalTimes.{IsShown}
use Rattle.desk_clock.proofs.ShownTimes.{shown_date, year_fits, shown_parts}
use Rattle.desk_clock.proofs.local_times.local_time.Goals as goal

pub overflow_cast-result : goal.overflow_cast-result
overflow_cast-result c =
    let d = c.from_days_since_min-date.result in
    let e : epoch_day d ≡ pos (10956 + c.args.shown / 1440) = omega (arith, signed_arith) in
    let found = shown_date d c.args.shown c.requires e in
    let fits : FitsSigned w16 d.year = omega (arith, signed_arith) in
    rw (to_z-of_z w16 d.year fits) (year_fits d found.1)

pub returns-clause-value : goal.returns-clause-value
returns-clause-value c =
    let d = c.from_days_since_min-date.result in
    let e : epoch_day d ≡ pos (10956 + c.args.shown / 1440) = omega (arith, signed_arith) in
    let found = shown_date d c.args.shown c.requires e in
    let fits : FitsSigned w16 d.year = omega (arith, signed_arith) in
    rw (to_z-of_z w16 d.year fits) found.0

pub returns-clause-range : goal.returns-clause-range
returns-clause-range c = subst IsShown (sym (returns-clause-value c)) (shown_parts c.args.shown c.requires)
