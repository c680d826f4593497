-- the zones of the lists so far
use Rattle.std.proofs.Common.{◌≡◌, map}
use Rattle.segmenter.specs.Steps.{classes_of, heads_view, classes_view}
use Rattle.segmenter.proofs.zones.classes_of.Given as goal

abbrev pub invariant-loop-head : goal.invariant-loop-head
invariant-loop-head l = classes_view l.classes.entries ≡ classes_of (heads_view (map (λ e. (e.0.now, e.1.now)) l.yielded))
