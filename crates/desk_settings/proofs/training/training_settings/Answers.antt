use Rattle.desk_settings.proofs.TrainingForms.{given_forms}
use Rattle.desk_settings.proofs.training.training_settings.Goals as goal

pub returns-clause-forms : goal.returns-clause-forms
returns-clause-forms c = given_forms c.args.office c.made.result c.requires c.made.ensures
