use Rattle.desk_clock.proofs.Calendars.{day_number}
use Rattle.desk_clock.proofs.local_times.calendars_agree.Goals as goal

pub returns : goal.returns
returns c = day_number
