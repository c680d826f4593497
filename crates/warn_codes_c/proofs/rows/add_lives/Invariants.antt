use Rattle.std.proofs.Common.{◌≡◌, ◌++◌, flat_map, drop}
use Rattle.warn_codes_c.specs.Rows.{steps_in}
use Rattle.warn_codes_c.proofs.rows.add_lives.Given as goal

-- what is left makes the list whole
abbrev pub invariant-loop-life : goal.invariant-loop-life
invariant-loop-life l = l.rows ++ flat_map steps_in (drop l.life-index l.lives) ≡ l.initial.rows ++ flat_map steps_in l.lives
