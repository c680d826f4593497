use Rattle.std.proofs.Common.{◌≡◌, ◌++◌, drop}
use Rattle.archive_report.specs.Texts.{steps_text}
use Rattle.archive_report.proofs.texts.write_steps.Given as goal

-- the steps that are left make the text whole
abbrev pub invariant-loop-step : goal.invariant-loop-step
invariant-loop-step l = l.out ++ steps_text (drop l.step-index l.steps) ≡ l.initial.out ++ steps_text l.steps
