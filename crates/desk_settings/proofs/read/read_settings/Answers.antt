use Rattle.toml.specs.View.{table_view}
use Rattle.desk_settings.proofs.Accepted.{forms_given}
use Rattle.desk_settings.proofs.read.read_settings.Goals as goal

pub returns-clause-forms : goal.returns-clause-forms
returns-clause-forms c = forms_given c.settings_in.result (table_view c.in_ok-table.table) c.settings_in.ensures
