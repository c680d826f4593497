-- The rows stand after a command as before it.
use Rattle.county_notices.proofs.LawfulNotice.{standing_after}
use Rattle.county_notices.proofs.laws.accepted_commands_keep_the_rows.Goals as goal

pub returns : goal.returns
returns c = standing_after
