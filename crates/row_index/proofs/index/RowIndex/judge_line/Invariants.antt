-- the zones so far, with those that are left, are all, and the line was judged in those so far
use Rattle.std.proofs.Common.{◌≡◌, ◌++◌, List}
use Rattle.std.specs.List.{AllByRecursion}
use Rattle.hazard_types.specs.declared.line.Line.{Line}
use Rattle.row_index.specs.Groups.{AreJudged, Serves, zones_of}
use Rattle.row_index.proofs.Groups.{AreLeft}
use Rattle.row_index.proofs.index.RowIndex.judge_line.Given as goal

abbrev pub invariant-loop-run : goal.invariant-loop-run
invariant-loop-run l = record {
  zones : zones_of l.out.items ++ zones_of l.run-iterator.rest.items ≡ zones_of l.fn.runs.items;
  judged : (all lines : List Line) → AreJudged l.self l.asking.t all lines l.fn.runs.items → AllByRecursion (Serves l.self l.asking.t all l.changed l.line) (zones_of l.fn.runs.items)
      → AreLeft l.self l.asking.t all l.changed l.line lines l.run-iterator.rest.items l.out.items;
}
