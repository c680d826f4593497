use Rattle.std.proofs.Common.{sym, subst}
use Rattle.std.specs.List.{All}
use Rattle.hazard_types.specs.Places.{IsPlace}
use Rattle.desk_drill.proofs.Zones.{are_places}
use Rattle.desk_drill.proofs.requests.zones_from.Goals as goal

pub returns-clause-places : goal.returns-clause-places
returns-clause-places c = subst (All IsPlace) (sym c.loop-place.invariant) (are_places c.args.i c.loop-place.place)
