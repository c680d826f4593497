use Rattle.std.proofs.Common.{◌≡◌, ◌≤◌, ◌++◌, ◌-◌, ℕ, List, length}
use Rattle.byte_streams.specs.Flows.{Takes}
use Rattle.desk_links.specs.Links.{KeepsOutput}
use Rattle.follow_links.proofs.reading.read_body.Given as goal

-- what was read stands behind what was there
abbrev pub invariant-loop-buffer : goal.invariant-loop-buffer
invariant-loop-buffer g l = record {
  few : length l.bytes ≤ l.wanted;
  gained : (piece : List ℕ) × Takes (g.L.Link.state l.fn.link).input.left (g.L.Link.state l.link).input.left piece × (l.bytes ≡ l.fn.bytes ++ piece);
  steady : (g.L.Link.state l.link).input.faults ≡ (g.L.Link.state l.fn.link).input.faults;
  beside : KeepsOutput (g.L.Link.state l.fn.link) (g.L.Link.state l.link);
}

abbrev pub decreases-loop-buffer : goal.decreases-loop-buffer
decreases-loop-buffer g l = l.wanted - length l.bytes
