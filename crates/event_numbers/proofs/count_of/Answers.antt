-- The count at the place, or none where there is a gap.
use Rattle.std.proofs.Common.{◌∙◌, sym, ap}
use Rattle.event_numbers.specs.declared.Count.{Count}
use Rattle.event_numbers.proofs.CountLemmas.{held, absent_count}
use Rattle.event_numbers.proofs.PlaceLemmas.{none_in_gap}
use Rattle.event_numbers.proofs.count_of.Goals as goal

pub returns-in-Ok : goal.returns-in-Ok
returns-in-Ok c =
    ap (λ (count : Count). count.count) (sym c.index-counted-place.is)
    ∙ sym (held c.args.h.now c.args.year c.args.counted.now c.in-Ok.place c.index-counted-place.result c.in-Ok.ensures.found c.index-counted-place.is)

pub returns-in-Err : goal.returns-in-Err
returns-in-Err c = sym (absent_count c.args.h.now c.args.year c.args.counted.now (none_in_gap c.args.h.now c.args.year c.args.counted.now _ c.in-Err.ensures.absent))
