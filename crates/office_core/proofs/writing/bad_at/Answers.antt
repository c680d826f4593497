-- A byte that stands well is passed.
use Rattle.std.proofs.Common.{◌<◌, ◌∙◌, sym, length, arith}
use Rattle.office_core.proofs.WritingLemmas.{goes_on}
use Rattle.office_core.proofs.writing.bad_at.Goals as goal

pub loop-at-preserved : goal.loop-at-preserved
loop-at-preserved c =
    let within : c.loop-at.at < length c.args.text.now = omega arith in
    goes_on c.args.text.now c.loop-at.at within (sym c.is_printable.ensures ∙ c.if-not-is_printable.false) (sym c.is_doubled.ensures ∙ c.if-is_doubled.false) c.loop-at.invariant
