-- A row of this zone and event gives the row its place.
use Rattle.std.proofs.Common.{◌∙◌, sym}
use Rattle.event_life.proofs.SeatLemmas.{tied_seat}
use Rattle.event_life.proofs.putting.find_row.Goals as goal

pub returns-in-Equal-clause-seated : goal.returns-in-Equal-clause-seated
returns-in-Equal-clause-seated c = tied_seat c.args.row.now c.args.rows.now c.loop-place.place c.index-rows-place.result c.loop-place-test.true c.index-rows-place.is (sym c.order.ensures ∙ c.in-Equal.is) c.loop-place.invariant
