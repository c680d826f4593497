-- the lines that are left come into their places as all of them do
use Rattle.std.proofs.Common.{◌≡◌, List, drop, fold}
use Rattle.hazard_types.specs.declared.line.Line.{Line}
use Rattle.hazard_types.specs.declared.line.SegLine.{SegLine}
use Rattle.segmenter.specs.Groups.{without_zone, placed}
use Rattle.segmenter.specs.OneGroup.{lines_without_zones}
use Rattle.segmenter.proofs.one_group.lines_without_zones.Given as goal

abbrev pub invariant-loop-line : goal.invariant-loop-line
invariant-loop-line l = fold (λ (ordered : List SegLine) (line : Line). placed (without_zone line) ordered) l.ordered (drop l.line-index l.lines) ≡ lines_without_zones l.lines
