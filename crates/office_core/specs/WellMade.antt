-- A product that was made as it should be.
use Rattle.std.specs.Prelude.{◌≡◌, ◌≤◌, ℕ, ◌+◌, List, length, Option, None, Some, IsTrue, ⊤}
use Rattle.office_types.specs.declared.request.Plan.{Plan}
use Rattle.event_life.specs.Reordered.{are_lawful}
use Rattle.event_numbers.specs.declared.Count.{Count}
use Rattle.event_numbers.specs.Counts.{AreDrawnInOrder}
use Rattle.hazard_board.specs.Board.{openings}
use Rattle.product_template.specs.Text.{text_of}
use Rattle.office_core.specs.Keeping.{ReadsWell}
use Rattle.office_core.specs.Making.{Making, broken_lines}
use Rattle.office_core.specs.State.{State}
use Rattle.office_core.specs.Step.{IsMade}
use Rattle.office_core.specs.Views.{Room}
use Rattle.office_core.specs.declared.made.Made.{Made}

-- the product of a plan, behind those there are, which corrects another one where it does
abbrev pub made_with : State → ℕ → Option ℕ → Plan → Made
made_with s t original plan = record {
  sent = record { number = length s.products + 1; category = plan.category; time = t; original = original; lines = plan.lines; texts = plan.texts; text = text_of s.settings s.class plan t s.edition };
  opened = plan.opened;
}

-- Its lines break no rule and are lawful, its numbers are the next ones, and its text reads as its plan.
pub record IsWellMade (s : State) (counts : List Count) (t : ℕ) (making : Making) (made : Made) : Type 0 where
  pub kept : broken_lines s t making ≡ None
  pub product : IsMade s t making (Some made)
  pub reads : ReadsWell s t making (Some made)
  pub lawful : IsTrue (are_lawful s.rows t made.sent.lines)
  pub numbers : AreDrawnInOrder counts made.opened

-- the same of what a request makes, if it makes a product
abbrev pub IsWellMadeIf : State → List Count → ℕ → Making → Option Made → Type 0
IsWellMadeIf s counts t making None = (broken_lines s t making ≡ None) × IsMade s t making None
IsWellMadeIf s counts t making (Some made) = IsWellMade s counts t making made

-- there is memory for a product: for its rows, for the numbers of the events that it opens, and for itself
pub record HasRoomFor (room : Room) (made : Made) : Type 0 where
  pub rows : openings made.sent.lines ≤ room.rows
  pub numbers : length made.opened ≤ room.numbers
  pub products : 1 ≤ room.products

abbrev pub HasRoomForIf : Room → Option Made → Type 0
HasRoomForIf room None = ⊤
HasRoomForIf room (Some made) = HasRoomFor room made
