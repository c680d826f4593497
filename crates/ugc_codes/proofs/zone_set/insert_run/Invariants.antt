use Rattle.std.proofs.Common.{◌≡◌, ◌-◌}
use Rattle.ugc_codes.specs.Grammar.{numbered, add_run}
use Rattle.ugc_codes.proofs.zone_set.insert_run.Given as goal

-- the numbers that are left make the set whole
abbrev pub invariant-loop-number : goal.invariant-loop-number
invariant-loop-number l = add_run l.mixed.keys (numbered l.first l.number) (l.number-end - l.number) ≡ add_run l.initial.mixed.keys l.first (l.number-end - l.first.number)
