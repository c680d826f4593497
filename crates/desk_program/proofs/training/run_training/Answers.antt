use Rattle.hazard_types.specs.declared.codes.Class.TheVariants as class
use Rattle.office_types.specs.declared.request.Edition.TheVariants.{One}
use Rattle.desk_settings.specs.AreSettings.{training_of}
use Rattle.desk_program.proofs.Drying.{dry_run, unbegun}
use Rattle.desk_program.proofs.training.run_training.Goals as goal

pub returns-in-Ok : goal.returns-in-Ok
returns-in-Ok g c = dry_run (record { accepted = c.a_request_has_one_answer.ensures.accepted; refused = c.a_request_has_one_answer.ensures.refused; apart = c.a_request_has_one_answer.ensures.apart }) c.args.dry.now c.args.limit c.in-Ok.desk _ _ _ _ c.in-Ok.ensures (c.offices_begin_in_agreement.ensures (training_of c.args.dry.now.office) class.T One).reads c.run_lines.ensures

pub returns-in-Err : goal.returns-in-Err
returns-in-Err g c = unbegun c.args.dry.now c.args.limit _ _ _ _ (c.offices_begin_in_agreement.ensures (training_of c.args.dry.now.office) class.T One).reads c.end_at_once.ensures
