-- One turn of a pass at a shared office.
use Rattle.std.specs.Prelude.{◌≡◌, ℤ, List}
use mathlib.Core.List.{IsPrefix}
use Rattle.request_json.specs.declared.asked.Asked.{Asked}
use Rattle.office_journal.specs.declared.answers.Answer.{Answer}
use Rattle.office_journal.specs.declared.kept.KeptOffice.{KeptOffice}
use Rattle.turn_lock.specs.Passes.{KeepsRights, PassRecord, PlacesAfter}
use Rattle.office_turns.specs.Submitted.{SubmittedAt}
use Rattle.office_turns.specs.declared.happening.Happening.{Happening}

-- The request was submitted once, after happenings that begin with all that the pass had seen, at a reading that the clock gives. The pass has seen what it added since, and has its place.
pub record SubmitsInTurn {D : Type 0} {d : _} (gives : ℤ → Type 0) (a : Asked) (old new : PassRecord (KeptOffice D d) (Happening D d)) (answer : Answer) : Type 0 where
  pub kept : KeepsRights old new
  pub before : List (Happening D d)
  pub begins : IsPrefix old.seen before
  -- a pass with all shares is the only one
  pub alone : old.shares ≡ 1024 → before ≡ old.seen
  pub submitted : SubmittedAt old.base before new.seen gives a answer
  pub places : PlacesAfter before new.seen old.mine new.mine
