-- The row at a seat is what the map has there.
use Rattle.std.proofs.Common.{◌∙◌}
use Rattle.row_index.proofs.Seated.{looked_up}
use Rattle.row_index.proofs.seats.row_in.Goals as goal

pub returns-in-Some : goal.returns-in-Some
returns-in-Some c = rw (c.seat_at.ensures) at c.in-Some.ensures.value ∙ looked_up c.args.seated.now.entries c.requires c.args.event.now c.args.zone.now

pub returns-in-None : goal.returns-in-None
returns-in-None c = rw (c.seat_at.ensures) at c.in-None.ensures.value ∙ looked_up c.args.seated.now.entries c.requires c.args.event.now c.args.zone.now
