-- the zones so far, with those that are left, are all, and the line was judged in those so far
use Rattle.std.proofs.Common.{◌≡◌, ◌++◌, ◌∷◌, [], List, length}
use Rattle.std.specs.List.{AllByRecursion}
use Rattle.hazard_types.specs.declared.line.Line.{Line}
use Rattle.row_index.specs.Groups.{AreJudged, IsReady, lines_of, zones_of}
use Rattle.row_index.proofs.Groups.{IsPartly}
use Rattle.row_index.proofs.index.RowIndex.add_parted.Given as goal

abbrev pub invariant-loop-first : goal.invariant-loop-first
invariant-loop-first l = record {
  zones : zones_of l.out.items ++ l.left ≡ zones_of l.fn.out.items ++ l.fn.zones;
  judged : (all : List Line) → AllByRecursion (IsReady l.self l.asking.t all l.asking.changed.now l.asking.line l.verdicts) l.fn.zones
      → AreJudged l.self l.asking.t all (lines_of l.verdicts ++ l.asking.line ∷ []) l.fn.out.items
      → IsPartly l.self l.asking.t all l.asking.changed.now l.asking.line l.verdicts l.left l.out.items;
}

abbrev pub decreases-loop-first : goal.decreases-loop-first
decreases-loop-first l = length l.left
