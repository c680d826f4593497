-- Of a period that has begun the first of its end decides, and else the same one alone.
use Rattle.std.proofs.Common.{◌∙◌, ◌≤◌, sym, arith, le-leb}
use Rattle.hazard_board.proofs.PeriodLemmas.{same_past, same_begun, not_begun, same_exact}
use Rattle.hazard_board.proofs.periods.has_period.Goals as goal

pub returns-then-not-ends_after : goal.returns-then-not-ends_after
returns-then-not-ends_after c = same_past c.args.periods.now c.args.e.now c.args.p.now c.args.t (sym c.ends_after.ensures ∙ c.if-not-ends_after.true)

pub returns-then-get : goal.returns-then-get
returns-then-get c =
    let begun : c.args.p.now.begin ≤ c.args.t = omega (arith, c.if-get.true, c.get.ensures.value, c.get-2.ensures.value) in
    c.has_begun.ensures
    ∙ same_begun c.args.periods.now (record { event = c.args.e.now; period = c.args.p.now; rows = 0 }) c.args.t (sym c.ends_after.ensures ∙ c.if-not-ends_after.false) (le-leb _ _ begun)

pub returns-else-get : goal.returns-else-get
returns-else-get c =
    let later = not_begun c.args.p.now.begin c.args.t (omega (arith, c.if-get.false, c.get.ensures.value, c.get-2.ensures.value)) in
    c.is_ok.ensures.value
    ∙ same_exact c.args.periods.now (record { event = c.args.e.now; period = c.args.p.now; rows = 0 }) c.args.t c.requires.some (sym c.ends_after.ensures ∙ c.if-not-ends_after.false) later c.place_of.result c.place_of.ensures.found c.place_of.ensures.absent
