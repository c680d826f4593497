use Rattle.std.proofs.Common.{◌∙◌, arith, FitsSigned, w32}
use Rattle.std.proofs.lemmas.Int.{to_z-of_z}
use Rattle.jiff_core.proofs.SignedLemmas.{signed_arith}
use Rattle.desk_clock.proofs.RuleLemmas.{text_offset-zone}
use Rattle.jiff.specs.Words.{plain_zone}
use Rattle.desk_clock.proofs.zones.offset_by.Goals as goal

pub returns-in-Ok : goal.returns-in-Ok
returns-in-Ok c =
    let at = text_offset-zone c.args.text.now (plain_zone c.in-Ok.zone) c.args.instant.nanosecond c.in-Ok.ensures.value in
    let fits : FitsSigned w32 c.seconds.result = omega (arith, signed_arith) in
    rw (to_z-of_z w32 c.seconds.result fits) (c.seconds.ensures ∙ c.to_offset.ensures ∙ at)
