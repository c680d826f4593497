use Rattle.std.proofs.Common.{◌≡◌, ◌++◌, take, drop}
use Rattle.event_life.specs.Products.{judged, judged_from}
use Rattle.event_life.proofs.judging.judge.Given as goal

-- what was found so far, with what will be, is what is found of all lines
abbrev pub invariant-loop-place : goal.invariant-loop-place
invariant-loop-place l = l.found.items ++ judged_from l.rows l.t l.lines (take l.place l.lines) (drop l.place l.lines) ≡ judged l.rows l.t l.lines
