use Rattle.std.proofs.Common.{◌≡◌, drop}
use Rattle.desk_settings.specs.Reading.{has_twice}
use Rattle.desk_settings.proofs.read.has_twice.Given as goal

-- what is left decides
abbrev pub invariant-loop-i : goal.invariant-loop-i
invariant-loop-i l = has_twice l.desks ≡ has_twice (drop l.i l.desks)
