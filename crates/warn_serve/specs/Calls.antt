-- What becomes of a call at a shared office: its answer, where it was given, and what it leaves of a pass.
use Rattle.std.specs.Prelude.{◌≡◌, ◌⊎◌, ℕ, ℤ, Bool, List, Result, Ok, Err}
use mathlib.Core.List.{IsPrefix}
use Rattle.hazard_types.specs.declared.or.Or.{Or}
use Rattle.office_types.specs.declared.refusal.Refusal.{Refusal}
use Rattle.office_types.specs.declared.request.Query.{Query}
use Rattle.request_json.specs.Form.{asked_of}
use Rattle.request_json.specs.declared.asked.Asked.{Asked}
use Rattle.office_journal.specs.declared.answers.Answer.{Answer}
use Rattle.office_journal.specs.declared.kept.KeptOffice.{KeptOffice}
use Rattle.turn_lock.specs.Passes.{KeepsRights, PassRecord, PlacesAfter}
use Rattle.office_turns.specs.Submitted.{LookedAt}
use Rattle.office_turns.specs.Turns.{SubmitsInTurn}
use Rattle.office_turns.specs.declared.happening.Happening.{Happening}
use Rattle.warn_http.specs.Calls.{Called}
use Rattle.warn_http.specs.declared.read.Call.{Call}
use Rattle.warn_http.specs.declared.read.Call.TheVariants.{Post, Look}
use Rattle.warn_serve.specs.Answers.{look_answer, no_memory_answer, refused_answer, submit_answer}

-- One look was taken, after happenings that begin with all that the pass had seen, at a reading that the clock gives. It adds nothing.
pub record LooksInTurn {D : Type 0} {d : _} (gives : ℤ → Type 0) (query : Query) (old new : PassRecord (KeptOffice D d) (Happening D d)) (shown : Result (List ℕ) (Or Refusal)) : Type 0 where
  pub kept : KeepsRights old new
  pub before : List (Happening D d)
  pub begins : IsPrefix old.seen before
  pub alone : old.shares ≡ 1024 → before ≡ old.seen
  pub looked : LookedAt old.base before new.seen gives query shown
  pub places : PlacesAfter before new.seen old.mine new.mine

module _ {D : Type 0} {d : _} (last : Bool) (old new : PassRecord (KeptOffice D d) (Happening D d)) (answer : List ℕ) where
  -- what is posted is no request, which is told, and no turn was taken
  pub record IsMisread (posted : List ℕ) : Type 0 where
    pub broken : Refusal
    pub read : asked_of posted ≡ Err broken
    pub told : answer ≡ refused_answer broken last
    pub unused : new ≡ old

  -- memory lacked before a turn, which is told
  pub record IsUnread : Type 0 where
    pub told : answer ≡ no_memory_answer last
    pub unused : new ≡ old

  module _ (gives : ℤ → Type 0) where
    -- a request is submitted in one turn, at a reading that the clock gives
    pub record Submits (asked : Asked) : Type 0 where
      pub outcome : Answer
      pub turn : SubmitsInTurn gives asked old new outcome
      pub told : answer ≡ submit_answer outcome last

    -- what is posted is a request, which is submitted
    pub record IsSubmitted (posted : List ℕ) : Type 0 where
      pub asked : Asked
      pub read : asked_of posted ≡ Ok asked
      pub submits : Submits asked

    -- a look, in one turn at a reading that the clock gives
    pub record IsLooked (query : Query) : Type 0 where
      pub shown : Result (List ℕ) (Or Refusal)
      pub turn : LooksInTurn gives query old new shown
      pub told : answer ≡ look_answer query shown last

    -- the answer to a call that posts these bytes
    abbrev pub AnswersPost : List ℕ → Type 0
    AnswersPost posted = IsSubmitted posted ⊎ (IsMisread posted ⊎ IsUnread)

    -- the answer to what a call asks for, which posts these bytes
    abbrev pub AnswersAsked : Call → List ℕ → Type 0
    AnswersAsked (Post span) posted = AnswersPost posted
    AnswersAsked (Look query) posted = IsLooked query

-- the answer to a call, and what it leaves of a pass
abbrev pub AnswersCall : {D : Type 0} {d : _} → (ℤ → Type 0) → Called → PassRecord (KeptOffice D d) (Happening D d) → PassRecord (KeptOffice D d) (Happening D d) → List ℕ → Type 0
AnswersCall gives c old new answer = AnswersAsked c.last old new answer gives c.call c.posted

-- A call is answered so, and nothing happened in its turn that the pass could call its own: no entry was added, and the disk did not fail. Where memory lacks for such an answer, it may be lost.
abbrev pub LosesCall : {D : Type 0} {d : _} → (ℤ → Type 0) → Called → PassRecord (KeptOffice D d) (Happening D d) → PassRecord (KeptOffice D d) (Happening D d) → List ℕ → Type 0
LosesCall gives c old new answer = AnswersCall gives c old new answer × (new.mine ≡ old.mine)
