use Rattle.std.proofs.Common.{◌≤◌, ◌-◌}
use Rattle.desk_drill.specs.Keeping.{IsKept, drilled_of}
use Rattle.desk_drill.specs.Office.{Drilled, LeadsTo, first_drilled}
use Rattle.desk_drill.specs.Requests.{requests, requests_from}
use Rattle.desk_drill.proofs.drill.drilled.Given as goal

-- the requests that are left lead where all do
abbrev pub invariant-loop-i : goal.invariant-loop-i
invariant-loop-i l = record {
  left : (z : Drilled) → LeadsTo (drilled_of l.desk) (requests_from l.i l.draws.state (l.fn.drill.count - l.i)) z → LeadsTo first_drilled (requests l.fn.drill.number l.fn.drill.count) z;
  kept : IsKept l.desk;
  refused : l.desk.refused ≤ l.i;
}
