-- the area that was last reaches so far, and those of the zones so far do
use Rattle.std.proofs.Common.{take}
use Rattle.row_index.specs.Reaching.{AreReached, Grows, IsLast}
use Rattle.row_index.specs.Runs.{rows_along}
use Rattle.row_index.proofs.reach.reach_each.Given as goal

abbrev pub invariant-loop-zone : goal.invariant-loop-zone
invariant-loop-zone l = record {
  last : IsLast l.event l.life l.last l.reaches.keys;
  grows : Grows l.initial.reaches.keys l.reaches.keys;
  reached : AreReached l.reaches.keys (rows_along l.event l.life (take l.zone-index l.zones));
}
