use Rattle.desk_settings.proofs.Accepted.{accepted}
use Rattle.desk_settings.proofs.laws.settings_have_forms.Goals as goal

pub returns : goal.returns
returns c = accepted
