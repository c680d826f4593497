-- the lists that are left come into their places as all of them do
use Rattle.std.proofs.Common.{◌≡◌, List, fold}
use Rattle.hazard_types.specs.declared.line.SegLine.{SegLine}
use Rattle.segmenter.specs.Steps.{Heads, add_head, heads_of, groups_view, heads_view}
use Rattle.segmenter.specs.declared.groups.Group.{Group}
use Rattle.segmenter.proofs.zones.heads_of.Given as goal

abbrev pub invariant-loop-group : goal.invariant-loop-group
invariant-loop-group l = fold (λ (heads : Heads) (e : Group × List SegLine). add_head heads e.0 e.1) (heads_view l.heads.entries) (groups_view l.group-iterator) ≡ heads_of (groups_view l.fn.groups.entries)
