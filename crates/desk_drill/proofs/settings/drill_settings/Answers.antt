use Rattle.desk_drill.proofs.Zones.{given_forms}
use Rattle.desk_drill.proofs.settings.drill_settings.Goals as goal

pub returns-clause-forms : goal.returns-clause-forms
returns-clause-forms c = given_forms c.made.result c.made.ensures
