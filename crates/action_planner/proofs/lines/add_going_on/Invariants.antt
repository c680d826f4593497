-- the lines so far, and those of the rows that are left, are those of all
use Rattle.std.proofs.Common.{◌≡◌, ◌++◌, map, filter, drop}
use Rattle.hazard_types.specs.declared.codes.Action.TheVariants.{Con}
use Rattle.action_planner.specs.Lines.{line_on, is_continued}
use Rattle.action_planner.proofs.lines.add_going_on.Given as goal

abbrev pub invariant-loop-row : goal.invariant-loop-row
invariant-loop-row l = l.lines ++ map (line_on Con l.t) (filter (is_continued l.category l.t l.spoken) (drop l.row-index l.rows)) ≡ l.initial.lines ++ map (line_on Con l.t) (filter (is_continued l.category l.t l.spoken) l.rows)
