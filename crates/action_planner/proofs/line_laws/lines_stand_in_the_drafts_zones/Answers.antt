-- Rows that go on beside stand in zones that are touched.
use Rattle.action_planner.proofs.LineLemmas.{lines_in_zones_given}
use Rattle.action_planner.proofs.line_laws.lines_stand_in_the_drafts_zones.Goals as goal

pub returns : goal.returns
returns c = lines_in_zones_given
