use Rattle.std.proofs.Common.{rules, arith}
use Rattle.std.proofs.lemmas.Grind.{common_steps}
use Rattle.ugc_codes.proofs.Adding.{places_more}
use Rattle.ugc_codes.proofs.write.groups_of.Goals as goal

pub loop-zone-preserved : goal.loop-zone-preserved
loop-zone-preserved c = record {
  range = search rules;
  ends = search rules;
  places = places_more _ c.loop-zone.zone-index c.zone-item.result c.loop-zone-test.true c.zone-item.is c.continues_span.ensures.place c.loop-zone.invariant.places;
  whole = grind (arith, common_steps);
}
