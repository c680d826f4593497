-- What contracts see of a script that holds its office and its clock.
use Rattle.std.specs.Prelude.{◌≡◌}
use Rattle.office_journal.specs.declared.kept.KeptOffice.{KeptOffice}
use Rattle.desk_commands.specs.Scripts.{Scripted}
use Rattle.desk_commands.specs.declared.script.Script.{Script}

abbrev pub scripted : {D C : Type 0} {d : _} → Script D C d → Scripted (KeptOffice D d) C
scripted s = record { kept = s.kept.now; clock = s.clock.now }

-- it holds the same office and the same clock
pub record HasReferences {D C : Type 0} {d : _} (old new : Script D C d) : Type 0 where
  pub kept : new.kept.ghost_name ≡ old.kept.ghost_name
  pub clock : new.clock.ghost_name ≡ old.clock.ghost_name
