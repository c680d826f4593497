-- A text says what its segments say, and no two segments say one event in one zone.
use Rattle.segmenter.proofs.SaidLemmas.{in_text, apart_in_text}
use Rattle.segmenter.proofs.laws.segments_say_each_line_once.Goals as goal

pub returns-clause-lines : goal.returns-clause-lines
returns-clause-lines c = in_text

pub returns-clause-once : goal.returns-clause-once
returns-clause-once c = apart_in_text
