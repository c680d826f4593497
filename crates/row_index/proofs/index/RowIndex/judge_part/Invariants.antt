-- the lines so far were judged in all zones
use Rattle.std.proofs.Common.{◌≡◌, List, take}
use Rattle.std.specs.List.{AllByRecursion}
use Rattle.hazard_types.specs.declared.line.Line.{Line}
use Rattle.row_index.specs.Groups.{AreJudged, Serves, zones_of}
use Rattle.row_index.proofs.index.RowIndex.judge_part.Given as goal

abbrev pub invariant-loop-line : goal.invariant-loop-line
invariant-loop-line l = record {
  zones : zones_of l.runs.items ≡ l.part.zones.now;
  judged : (all : List Line) → AllByRecursion (λ (x : Line). AllByRecursion (Serves l.self l.t all l.changed x) l.part.zones.now) l.line-items
      → AreJudged l.self l.t all (take l.line-index l.line-items) l.runs.items;
}
