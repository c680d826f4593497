-- What becomes of a request that is sent again, as by a desk that no answer has reached before a crash.
use Rattle.std.specs.Prelude.{◌≡◌, ◌≢◌, ◌⊎◌, ◌++◌, ◌∷◌, ℕ, ℤ, List, Option}
use Rattle.std.specs.List.{AllByRecursion}
use Rattle.desk_traits.specs.Crash.{Crashes}
use Rattle.office_types.specs.declared.request.Reply.{Reply}
use Rattle.request_json.specs.Replies.{reply_text}
use Rattle.office_core.specs.Histories.{Entered}
use Rattle.office_core.specs.Step.{Refuses, Repeats}
use Rattle.office_journal.specs.Histories.{History}
use Rattle.office_journal.specs.Kept.{HasHistory, state_of}
use Rattle.office_journal.specs.Outcomes.{Becomes, IsAsBefore}
use Rattle.office_journal.specs.Submitting.{IsOffered}
use Rattle.office_journal.specs.declared.answers.Answer.{Answer}
use Rattle.office_journal.specs.declared.answers.Answer.TheVariants.{Repeated, OutOfMemory}
use Rattle.office_journal.specs.declared.kept.KeptOffice.{KeptOffice}

-- it is an entry of the history, and no later one is of its desk
pub record IsLastOf (h : History) (x : Entered) : Type 0 where
  pub earlier : List Entered
  pub later : List Entered
  pub stands : h.entries ≡ earlier ++ x ∷ later
  pub others : AllByRecursion (λ (y : Entered). y.entry.desk ≢ x.entry.desk) later

-- The request of a desk's last entry, sent again at any reading, is answered with the reply of that entry or for want of memory, and the office and its disk are as they were.
module _ {D : Type 0} {d : _} (seen : D → Option (List ℕ)) (crash : D → Crashes) (faults : D → ℕ) (old : KeptOffice D d) where
  abbrev pub HasOneEffect : Type 0
  HasOneEffect = (file : List ℕ) (h : History) (x : Entered) → HasHistory old file h → IsLastOf h x → (new : KeptOffice D d) (reading : ℤ) (answer : Answer)
      → Becomes seen crash faults old new (IsOffered (state_of old) x.entry.desk x.entry.seq x.entry.request reading)
      (λ text. (kept : Reply) × Repeats (state_of old) x.entry.desk x.entry.seq x.entry.request kept × (text ≡ reply_text kept)) (Refuses (state_of old) x.entry.desk x.entry.seq x.entry.request reading) answer
      → ((answer ≡ Repeated (reply_text x.entry.reply)) ⊎ (answer ≡ OutOfMemory)) × IsAsBefore seen crash old new
