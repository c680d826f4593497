use Rattle.std.proofs.Common.{◌≡◌, ◌≤◌, ◌++◌, drop}
use Rattle.headline_text.specs.Wrapping.{fill, behind}
use Rattle.headline_text.proofs.wrapping.fill.Given as goal

-- what is left goes on from here
abbrev pub invariant-loop-byte : goal.invariant-loop-byte
invariant-loop-byte l =
    (l.initial.out ++ fill l.column l.word ≡ l.out ++ fill l.next (drop l.byte-index l.word))
    × (behind l.column l.word ≡ behind l.next (drop l.byte-index l.word))
    × (l.next ≤ 66)
