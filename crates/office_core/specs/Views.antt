-- An office as contracts see it: its state, the numbers drawn, and the room that it has taken for more.
use Rattle.std.specs.Prelude.{◌≤◌, ℕ, List}
use Rattle.event_numbers.specs.declared.Count.{Count}
use Rattle.office_core.specs.State.{State}

-- for how many more rows, numbers and products there is memory
pub record Room : Type 0 where
  pub rows : ℕ
  pub numbers : ℕ
  pub products : ℕ

pub record OfficeView : Type 0 where
  pub state : State
  -- how many numbers of each hazard and year were drawn, which the rows tell too
  pub counts : List Count
  pub room : Room

-- there is as much room as before, at least
pub record IsRoomier (before now : Room) : Type 0 where
  pub rows : before.rows ≤ now.rows
  pub numbers : before.numbers ≤ now.numbers
  pub products : before.products ≤ now.products
