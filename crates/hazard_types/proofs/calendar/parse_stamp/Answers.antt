use Rattle.std.proofs.Common.{◌≡◌, sym, ◌∙◌, ap, ℕ, Some}
use Rattle.hazard_types.proofs.Stamps.{read, some_if, spells_exactly}
use Rattle.hazard_types.specs.Calendar.{stamp_at}
use Rattle.hazard_types.proofs.calendar.parse_stamp.Goals as goal

pub returns-clause-value : goal.returns-clause-value
returns-clause-value c =
    let spelt = c.in_ok-parse_civil.ensures.some in
    some_if _ _ _ c.new.ensures c.minute_of.ensures.range
    ∙ ap (λ (m : ℕ). Some m) c.minute_of.ensures.value ∙ sym (read _ _ spelt.0 spelt.1)

pub returns-clause-exact : goal.returns-clause-exact
returns-clause-exact c =
    let spelt = c.in_ok-parse_civil.ensures.some in
    let value : c.new.result ≡ stamp_at c.args.bytes.now = some_if _ _ _ c.new.ensures c.minute_of.ensures.range ∙ ap (λ (m : ℕ). Some m) c.minute_of.ensures.value ∙ sym (read _ _ spelt.0 spelt.1) in
    spells_exactly c.args.bytes.now c.new.result value
