use Rattle.std.proofs.Common.{◌≡◌, ◌++◌, map, drop}
use Rattle.warn_codes_c.specs.Rows.{step_row}
use Rattle.warn_codes_c.proofs.rows.add_steps.Given as goal

-- what is left makes the list whole
abbrev pub invariant-loop-step : goal.invariant-loop-step
invariant-loop-step l = l.rows ++ map (step_row l.life) (drop l.step-index l.life.steps) ≡ l.initial.rows ++ map (step_row l.life) l.life.steps
