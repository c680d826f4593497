-- the events of the areas of zones that are not left are told, and those of the area that was last
use Rattle.row_index.specs.Reaching.{AreaTold}
use Rattle.row_index.proofs.Reached.{IsTelling}
use Rattle.row_index.proofs.reach.events_above.Given as goal

abbrev pub invariant-loop-zone : goal.invariant-loop-zone
invariant-loop-zone l = record {
  told : IsTelling l.reaches.keys l.zones.keys l.zone-iterator l.t l.ranks l.events.keys;
  last : AreaTold l.reaches.keys l.t l.ranks l.events.keys l.last;
}
