-- the groups of the lines so far
use Rattle.std.proofs.Common.{◌≡◌, take}
use Rattle.segmenter.specs.Steps.{groups_of, groups_view}
use Rattle.segmenter.proofs.groups.groups_of.Given as goal

abbrev pub invariant-loop-line : goal.invariant-loop-line
invariant-loop-line l = groups_view l.groups.entries ≡ groups_of (take l.line-index l.lines)
