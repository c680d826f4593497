-- What is answered to a request and to a look, after what has happened since an opening, and what it adds.
use Rattle.std.specs.Prelude.{◌≡◌, ◌⊎◌, ◌++◌, ℕ, ℤ, List, [], ◌∷◌, Result, Ok, Err}
use Rattle.std.specs.declared.snapshot.Snapshot.{Snapshot}
use Rattle.hazard_types.specs.declared.or.Or.{Or}
use Rattle.hazard_types.specs.declared.or.Or.TheVariants as or
use Rattle.office_types.specs.declared.refusal.Refusal.{Refusal}
use Rattle.office_types.specs.declared.refusal.Refusal.TheVariants.{JournalFull}
use Rattle.office_types.specs.declared.request.Query.{Query}
use Rattle.office_types.specs.declared.request.Reply.{Reply}
use Rattle.request_json.specs.Replies.{reply_text}
use Rattle.request_json.specs.declared.asked.Asked.{Asked}
use Rattle.office_core.specs.Histories.{Entered}
use Rattle.office_core.specs.Look.{RefusesLook, Shows}
use Rattle.office_core.specs.Prepared.{Readied}
use Rattle.office_core.specs.Step.{Refuses, Repeats}
use Rattle.office_journal.specs.Submitting.{IsOffered, IsTooLong, entered}
use Rattle.office_journal.specs.declared.answers.Answer.{Answer}
use Rattle.office_journal.specs.declared.answers.Answer.TheVariants.{Accepted, Repeated, Refused, DiskFault, OutOfMemory}
use Rattle.office_journal.specs.declared.kept.KeptOffice.{KeptOffice}
use Rattle.office_turns.specs.Happenings.{gate_at, state_at}
use Rattle.office_turns.specs.declared.happening.Happening.{Happening}
use Rattle.office_turns.specs.declared.happening.Happening.TheVariants.{Entry, Fault}

module _ {D : Type 0} {d : _} (base : KeptOffice D d) (before : List (Happening D d)) where
  -- a look shows the state after what had happened, or is refused there, or there is no memory
  abbrev pub Shown : Query → ℤ → Result (List ℕ) (Or Refusal) → Type 0
  Shown q reading (Ok text) = Shows (state_at base before) q reading text
  Shown q reading (Err (or.No broken)) = RefusesLook (state_at base before) q reading broken
  Shown q reading (Err or.OutOfMemory) = Unit {0}

module _ {D : Type 0} {d : _} (base : KeptOffice D d) (before after : List (Happening D d)) where
  -- The answer is the office's at the state after what had happened. An accepted request adds its entry, beside which the office stands as it was at the answer; one under which the disk failed adds a fault, each other one nothing.
  abbrev pub Submitted : Asked → ℤ → Answer → Type 0
  Submitted a reading (Accepted text) =
      (p : Snapshot Readied) × (then : Snapshot (KeptOffice D d)) × (after ≡ before ++ Entry p then ∷ []) × IsOffered (state_at base before) a.desk a.seq a.request reading (entered p.value) × (text ≡ reply_text p.value.entry.reply)
  Submitted a reading (Repeated text) = (kept : Reply) × Repeats (state_at base before) a.desk a.seq a.request kept × (text ≡ reply_text kept) × (after ≡ before)
  Submitted a reading (Refused broken) =
      (Refuses (state_at base before) a.desk a.seq a.request reading broken
      ⊎ ((broken ≡ JournalFull) × (x : Entered) × IsOffered (state_at base before) a.desk a.seq a.request reading x × IsTooLong (gate_at base before) x))
      × (after ≡ before)
  Submitted a reading DiskFault =
      (p : Snapshot Readied) × IsOffered (state_at base before) a.desk a.seq a.request reading (entered p.value) × (IsTooLong (gate_at base before) (entered p.value) → ⊥) × (after ≡ before ++ Fault p ∷ [])
  Submitted a reading OutOfMemory = after ≡ before

  -- a request is answered so at a reading that the clock gives
  pub record SubmittedAt (gives : ℤ → Type 0) (a : Asked) (answer : Answer) : Type 0 where
    pub reading : ℤ
    pub given : gives reading
    pub submitted : Submitted a reading answer

  -- a look is answered so, and adds nothing
  abbrev pub Looked : Query → ℤ → Result (List ℕ) (Or Refusal) → Type 0
  Looked q reading answer = Shown base before q reading answer × (after ≡ before)

  -- and that at a reading that the clock gives
  pub record LookedAt (gives : ℤ → Type 0) (q : Query) (answer : Result (List ℕ) (Or Refusal)) : Type 0 where
    pub reading : ℤ
    pub given : gives reading
    pub looked : Looked q reading answer
