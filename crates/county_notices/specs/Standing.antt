-- What holds of the rows between commands.
use Rattle.std.specs.Prelude.{◌≡◌, ◌≤◌, IsTrue, None}
use Rattle.std.specs.List.{AllByRecursion}
use Rattle.std.specs.List.Sorted.{IsStrictlySortedBy}
use Rattle.hazard_types.specs.Characters.{is_office}
use Rattle.hazard_types.specs.declared.line.Row.{Row}
use Rattle.event_life.specs.Products.{by_key}
use Rattle.hazard_board.specs.Consistent.{IsConsistent, NoneIsAhead}
use Rattle.notice_json.specs.Commands.{hazard_of}
use Rattle.notice_json.specs.declared.command.Watch.{Watch}
use Rattle.county_notices.specs.Commands.{Noticed}

-- a row of a watch: of its hazard, with a number of four digits and no flood values
pub record IsWatchRow (row : Row) : Type 0 where
  pub watch : Watch
  pub hazard : row.event.hazard ≡ hazard_of watch
  pub number : row.event.etn ≤ 9999
  pub flood : row.flood ≡ None

-- The office has its form. The rows stand by zone, then event, each pair once; no two open events share hazard and number, and no event is of a later year; all are of watches.
pub record IsStanding (s : Noticed) : Type 0 where
  pub office : IsTrue (is_office s.by.office)
  pub order : IsStrictlySortedBy by_key s.rows
  pub consistent : IsConsistent s.rows s.last
  pub behind : NoneIsAhead s.rows s.last
  pub watches : AllByRecursion IsWatchRow s.rows
  pub minute : s.last ≤ 52000000
