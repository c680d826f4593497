-- A line stands in its group, whose list one segment has.
use Rattle.segmenter.proofs.LawLemmas.{said}
use Rattle.segmenter.proofs.laws.segments_say_the_lines.Goals as goal

pub returns : goal.returns
returns c = said
