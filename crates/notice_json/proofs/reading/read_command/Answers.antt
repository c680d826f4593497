use Rattle.notice_json.proofs.CommandForms.{command_form}
use Rattle.notice_json.proofs.reading.read_command.Goals as goal

pub returns-in-Ok-clause-form : goal.returns-in-Ok-clause-form
returns-in-Ok-clause-form c = command_form _ c.in-Ok.command c.in-Ok.ensures
