-- the segments of the lists so far
use Rattle.std.proofs.Common.{◌≡◌, map}
use Rattle.segmenter.specs.Steps.{segments_of, classes_view}
use Rattle.segmenter.proofs.zones.segments_of.Given as goal

abbrev pub invariant-loop-lines : goal.invariant-loop-lines
invariant-loop-lines l = l.segments ≡ segments_of (classes_view (map (λ e. (e.0.now, e.1.now)) l.yielded))
