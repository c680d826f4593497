use Rattle.std.proofs.Common.{refl}
use Rattle.hazard_types.specs.declared.codes.Class.TheVariants.{O}
use Rattle.office_types.specs.declared.request.Edition.TheVariants.{One}
use Rattle.office_journal.specs.declared.replay.Replayed.{Replayed}
use Rattle.office_journal.proofs.Taking.{begins}
use Rattle.office_journal.proofs.replay.Replayed.first.Goals as goal

pub returns : goal.returns
returns c =
    let settings = c.in-Ok.settings in
    let found : Replayed = record { office = c.in_ok-office.office; entries = 0; size = c.record_length.result } in
    begins c.args.file.now settings found c.in-Ok.ensures.value c.in_ok-office.ensures (c.offices_begin_in_agreement.ensures settings O One).reads refl c.record_length.ensures
