use Rattle.std.proofs.Common.{◌≡◌, Ok, rules}
use Rattle.desk_settings.specs.Reading.{settings_of}
use Rattle.office_journal.proofs.Beginning.{short}
use Rattle.office_journal.proofs.kept.KeptOffice.create.Goals as goal

pub make-requires-clause-size : goal.make-requires-clause-size
make-requires-clause-size g c =
    let read : settings_of c.args.settings.now ≡ Ok c.in-Ok.read = search rules in
    short c.args.settings.now c.in-Ok.read read
