-- Seats that came in rising order, and others.
use Rattle.std.specs.Prelude.{◌≡◌, ◌&&◌, ◌||◌, ◌++◌, ◌∷◌, Bool, true, false, List, [], if◌then◌else◌, Option, Some, None}
use Rattle.std.specs.List.{list_any}
use Rattle.std.specs.Ordering.{is_lt}
use Rattle.hazard_types.specs.declared.line.Line.{Line}
use Rattle.row_index.specs.declared.seats.Seat.{Seat}
use Rattle.row_index.specs.Seating.{by_seat, key_of_line, has_seat}

-- all of them
abbrev pub seats_of : List Seat → List Seat → List Seat
seats_of rising others = rising ++ others

abbrev pub is_after_last_key : Option Seat → Seat → Bool
is_after_last_key None s = true
is_after_last_key (Some last) s = is_lt (by_seat last s)

-- none that is behind the last is among these
abbrev pub IsFree : Option Seat → List Seat → Type 0
IsFree last rising = (s : Seat) → is_after_last_key last s ≡ true → has_seat rising s ≡ false

-- the seats that rose and the last of them, with that of a line where it counts
abbrev pub rising_with : Bool → Line → List Seat → List Seat
rising_with counts line rising = if counts then rising ++ key_of_line line ∷ [] else rising

abbrev pub last_said : Bool → Line → Option Seat → Option Seat
last_said counts line last = if counts then Some (key_of_line line) else last

-- the seats of both lists, in whatever order
abbrev pub Joins : List Seat → List Seat → List Seat → Type 0
Joins seats others all = (q : Seat → Bool) → list_any q all ≡ (list_any q seats || list_any q others)

-- the seats with that of a line where it counts, in whatever order
abbrev pub Says : List Seat → List Seat → Bool → Line → Type 0
Says old new counts line = (q : Seat → Bool) → list_any q new ≡ (list_any q old || (counts && q (key_of_line line)))
