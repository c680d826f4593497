use Rattle.std.proofs.Common.{◌≡◌, ◌-◌, length, map, drop}
use Rattle.httparse.specs.Spans.{header_bytes}
use Rattle.follow_links.specs.Answers.{length_in}
use Rattle.follow_links.proofs.fields.length_in.Given as goal

-- what is left decides as the whole does
abbrev pub invariant-loop-at : goal.invariant-loop-at
invariant-loop-at l =
    length_in (map (header_bytes l.buf) (drop l.at l.fields)) ≡ length_in (map (header_bytes l.buf) l.fields)

abbrev pub decreases-loop-at : goal.decreases-loop-at
decreases-loop-at l = length l.fields - l.at
