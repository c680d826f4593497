use Rattle.std.proofs.Common.{◌≡◌, ◌≤◌, ◌⊎◌, ◌-◌, [], length}
use Rattle.byte_streams.specs.Flows.{Takes}
use Rattle.httparse.specs.Grammar.{HasNoResponse, MayBecomeResponse}
use Rattle.desk_links.specs.Links.{KeepsOutput}
use Rattle.follow_links.proofs.reading.read_head.Given as goal

-- no head stands in the bytes that were read
abbrev pub invariant-loop-buffer : goal.invariant-loop-buffer
invariant-loop-buffer g l = record {
  few : length l.bytes ≤ 8192;
  room : length l.fields ≡ 2731;
  buffer : 1 ≤ length l.buffer;
  takes : Takes (g.L.Link.state l.fn.link).input.left (g.L.Link.state l.link).input.left l.bytes;
  headless : HasNoResponse l.bytes;
  may : (l.bytes ≡ []) ⊎ MayBecomeResponse l.bytes;
  steady : (g.L.Link.state l.link).input.faults ≡ (g.L.Link.state l.fn.link).input.faults;
  beside : KeepsOutput (g.L.Link.state l.fn.link) (g.L.Link.state l.link);
}

abbrev pub decreases-loop-buffer : goal.decreases-loop-buffer
decreases-loop-buffer g l = 8192 - length l.bytes
