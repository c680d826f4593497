-- the line finds this in the zones so far
use Rattle.std.proofs.Common.{◌≡◌, List, take}
use Rattle.std.specs.List.{AllByRecursion}
use Rattle.hazard_types.specs.Places.{Place}
use Rattle.hazard_types.specs.declared.line.Line.{Line}
use Rattle.row_index.specs.Groups.{IsJudgedAt, Serves}
use Rattle.row_index.proofs.index.RowIndex.count_upgraded.Given as goal

abbrev pub invariant-loop-zone : goal.invariant-loop-zone
invariant-loop-zone l = record {
  count : l.count ≡ l.zone-index;
  judged : (all : List Line) → AllByRecursion (Serves l.self l.asking.t all l.asking.changed.now l.asking.line) l.zones
      → AllByRecursion (λ (z : Place). IsJudgedAt l.self l.asking.t all z l.verdict) (take l.zone-index l.zones);
}
