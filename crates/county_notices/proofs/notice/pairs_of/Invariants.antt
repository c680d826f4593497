-- what is left follows
use Rattle.std.proofs.Common.{◌≡◌, ◌++◌, drop, map}
use Rattle.county_notices.specs.Notices.{pair_of}
use Rattle.county_notices.proofs.notice.pairs_of.Given as goal

abbrev pub invariant-loop-line : goal.invariant-loop-line
invariant-loop-line l = map (pair_of l.office) l.lines ≡ l.pairs ++ map (pair_of l.office) (drop l.line-index l.lines)
