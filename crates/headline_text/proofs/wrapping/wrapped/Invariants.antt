use Rattle.std.proofs.Common.{◌≡◌, ◌≤◌, ◌-◌, ◌++◌, take, drop}
use Rattle.headline_text.specs.Wrapping.{lay, words, words_from}
use Rattle.headline_text.proofs.wrapping.wrapped.Given as goal

-- the piece that stands on its line as it stands in the text, the word that is begun, and what is left, go on from here
abbrev pub invariant-loop-i : goal.invariant-loop-i
invariant-loop-i l =
    (lay 0 (words l.text) ≡ l.out ++ take (l.to - l.from) (drop l.from l.text) ++ lay l.column (words_from (take (l.i - l.start) (drop l.start l.text)) (drop l.i l.text)))
    × (l.start ≤ l.i)
    × (l.column ≤ 66)
    × (l.from ≤ l.to)
    × (l.to ≤ l.i)
