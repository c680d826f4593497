-- What the maps of an index hold of its rows.
use Rattle.std.specs.Prelude.{List}
use Rattle.hazard_types.specs.declared.hazard.Event.{Event}
use Rattle.hazard_types.specs.declared.line.Row.{Row}
use Rattle.row_index.specs.declared.numbers.Number.{Number}
use Rattle.row_index.specs.declared.reach.Reach.{Reach}
use Rattle.row_index.specs.Holding.{AreHeld, told}
use Rattle.row_index.specs.Numbers.{AreOpened}
use Rattle.row_index.specs.Reaching.{Reaches}

-- the rows of each event are its own, the events stand by hazard and number, and how far they reach is known
pub record IsIndex (es : List (Event × List Row)) (events : List (Number × List Event)) (reach : List Reach) : Type 0 where
  pub held : AreHeld es
  pub opened : AreOpened events (told es)
  pub reached : Reaches reach es
