use Rattle.std.proofs.Common.{◌≡◌, ◌+◌, fold, drop}
use Rattle.segmenter.specs.Expiry.{earlier_live_end}
use Rattle.segmenter.proofs.expiries.expiry.Given as goal

-- the lines that are left lead to what all of them do
abbrev pub invariant-loop-line : goal.invariant-loop-line
invariant-loop-line l = fold earlier_live_end l.least (drop l.line-index l.lines) ≡ fold earlier_live_end (l.fn.t + 480) l.lines
