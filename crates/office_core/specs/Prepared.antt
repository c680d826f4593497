-- What is prepared: an entry, what becomes of the drafts, and the product that was made.
use Rattle.std.specs.Prelude.{◌≡◌, ◌≤◌, ◌<◌, ◌+◌, ℕ, ℤ, List, [], ◌∷◌, ◌++◌, length, take, drop, set, Option, None, Some, IsTrue, ⊤}
use Rattle.office_types.specs.declared.request.Draft.{Draft}
use Rattle.office_types.specs.declared.request.Entry.{Entry}
use Rattle.office_types.specs.declared.request.Request.{Request}
use Rattle.event_numbers.specs.declared.Count.{Count}
use Rattle.event_numbers.specs.Counts.{AreDrawnInOrder, DrawsAll}
use Rattle.hazard_board.specs.Board.{openings}
use Rattle.event_life.specs.Reordered.{are_lawful}
use Rattle.office_core.specs.Agreement.{Agrees}
use Rattle.office_core.specs.Rules.{unknown_desk}
use Rattle.office_core.specs.Sound.{IsSound}
use Rattle.office_core.specs.Step.{Accepts, drafts_after, entry_of, state_after}
use Rattle.office_core.specs.Views.{OfficeView}
use Rattle.office_core.specs.declared.made.Made.{Made}
use Rattle.office_core.specs.declared.prepared.DraftChange.{DraftChange}
use Rattle.office_core.specs.declared.prepared.DraftChange.TheVariants.{Keep, Open, Replace, Remove}

-- an accepted request before it is committed
pub record Readied : Type 0 where
  pub entry : Entry
  pub change : DraftChange
  pub made : Option Made

-- the drafts with the change
abbrev pub changed : DraftChange → List Draft → List Draft
changed Keep drafts = drafts
changed (Open draft) drafts = drafts ++ draft ∷ []
changed (Replace place draft) drafts = set drafts place draft
changed (Remove place) drafts = take place drafts ++ drop (place + 1) drafts

-- how many drafts were opened, with the change
abbrev pub begun_with : ℕ → DraftChange → ℕ
begun_with begun Keep = begun
begun_with begun (Open draft) = draft.id
begun_with begun (Replace place draft) = begun
begun_with begun (Remove place) = begun

-- a place that the change speaks of has a draft
abbrev pub HasPlace : DraftChange → List Draft → Type 0
HasPlace Keep drafts = ⊤
HasPlace (Open draft) drafts = length drafts < 64
HasPlace (Replace place draft) drafts = place < length drafts
HasPlace (Remove place) drafts = place < length drafts

-- a product may be taken: its lines are lawful, its numbers are the next ones, and there is room for all
pub record MayTake (o : OfficeView) (t : ℕ) (made : Made) : Type 0 where
  pub lawful : IsTrue (are_lawful o.state.rows t made.sent.lines)
  pub numbers : AreDrawnInOrder o.counts made.opened
  pub rows_room : openings made.sent.lines ≤ o.room.rows
  pub numbers_room : length made.opened ≤ o.room.numbers
  pub products_room : 1 ≤ o.room.products

abbrev pub MayTakeMade : OfficeView → ℕ → Option Made → Type 0
MayTakeMade o t None = ⊤
MayTakeMade o t (Some made) = MayTake o t made

abbrev pub draws : List Count → List Count → Option Made → Type 0
draws old new None = new ≡ old
draws old new (Some made) = DrawsAll old new made.opened

-- What was prepared may be committed: the office is the one that prepared it, and nothing was committed since. The desk is one of its desks. The state after is sound then, and its texts agree with its board.
pub record MayCommit (o : OfficeView) (p : Readied) : Type 0 where
  pub desk : unknown_desk o.state p.entry.desk ≡ None
  pub drafts : changed p.change o.state.drafts ≡ drafts_after o.state p.entry.desk p.entry.request p.entry.minute
  pub place : HasPlace p.change o.state.drafts
  pub product : MayTakeMade o p.entry.minute p.made
  pub sound : (counts : List Count) → draws o.counts counts p.made → IsSound (state_after o.state p.entry p.made) counts
  pub agrees : (counts : List Count) → draws o.counts counts p.made → Agrees (state_after o.state p.entry p.made) counts

-- The request is accepted, and this is its entry.
pub record IsReady (o : OfficeView) (desk : List ℕ) (seq : ℕ) (r : Request) (reading : ℤ) (p : Readied) : Type 0 where
  pub accepted : Accepts o.state desk seq r reading p.entry.minute p.made
  pub entry : p.entry ≡ entry_of o.state desk seq r p.entry.minute p.made
  pub may : MayCommit o p
