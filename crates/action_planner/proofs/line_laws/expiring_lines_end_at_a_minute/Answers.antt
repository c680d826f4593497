-- EXP is said near a closed end alone.
use Rattle.action_planner.proofs.LineLemmas.{corrected_never_expire, expiring_ends}
use Rattle.action_planner.proofs.line_laws.expiring_lines_end_at_a_minute.Goals as goal

pub returns-clause-planned : goal.returns-clause-planned
returns-clause-planned c = expiring_ends

pub returns-clause-corrected : goal.returns-clause-corrected
returns-clause-corrected c = corrected_never_expire
