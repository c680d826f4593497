-- The events at a number are what the map has there.
use Rattle.std.proofs.Common.{◌∙◌, Some, None}
use Rattle.row_index.specs.Numbers.{by_number}
use Rattle.row_index.proofs.Opened.{events-found}
use Rattle.row_index.proofs.numbers.events_at.Goals as goal

pub returns-in-Some : goal.returns-in-Some
returns-in-Some c = c.as_slice.ensures.value ∙ events-found by_number c.args.events.now.entries c.args.number.now (Some c.in-Some.events.now) c.in-Some.ensures.value

pub returns-in-None : goal.returns-in-None
returns-in-None c = events-found by_number c.args.events.now.entries c.args.number.now None c.in-None.ensures.value
