-- with the zones that are left, the rows become those of all zones
use Rattle.std.proofs.Common.{◌≡◌, map, drop}
use Rattle.action_planner.specs.Lines.{row_after_put}
use Rattle.action_planner.specs.Sending.{add_rows}
use Rattle.action_planner.proofs.sending.add_put.Given as goal

abbrev pub invariant-loop-zone : goal.invariant-loop-zone
invariant-loop-zone l =
    add_rows l.zones.entries (map (row_after_put l.board.rows l.t l.event l.part) (drop l.zone-index l.zone-items))
    ≡ add_rows l.initial.zones.entries (map (row_after_put l.board.rows l.t l.event l.part) l.zone-items)
