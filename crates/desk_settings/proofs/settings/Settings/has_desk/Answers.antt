use Rattle.desk_settings.proofs.LookUps.{desk_stands}
use Rattle.desk_settings.proofs.settings.Settings.has_desk.Goals as goal

pub returns-clause-stands : goal.returns-clause-stands
returns-clause-stands c = rw (c.is_among.ensures, c.as_slice.ensures) (desk_stands c.args.desk.now c.args.self.now.desks)
