-- the texts that are left decide as all do
use Rattle.std.proofs.Common.{◌≡◌, drop}
use Rattle.action_planner.specs.Corrections.{first_without_line}
use Rattle.action_planner.proofs.correcting.first_without_line.Given as goal

abbrev pub invariant-loop-told : goal.invariant-loop-told
invariant-loop-told l = first_without_line l.lines (drop l.told-index l.texts) ≡ first_without_line l.lines l.texts
