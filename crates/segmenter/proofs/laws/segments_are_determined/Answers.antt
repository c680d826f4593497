-- Both are in the one order, and have the same segments.
use Rattle.segmenter.proofs.LawLemmas.{segments_alike}
use Rattle.segmenter.proofs.laws.segments_are_determined.Goals as goal

pub returns : goal.returns
returns c = segments_alike
