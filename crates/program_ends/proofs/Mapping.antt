-- A run over lines of what never lacks memory.
use Rattle.std.proofs.Common.{ℕ, ◌≡◌, ◌⊎◌, inl, inr, List, [], ◌∷◌, Option, None, Some, ap, sym, ◌∙◌, arith}
use Rattle.byte_streams.specs.Flows.{Streams}
use Rattle.program_ends.specs.declared.ends.End.{End}
use Rattle.program_ends.specs.declared.ends.End.TheVariants.{ReadFault, WriteFault, InputTooLong, OutOfMemory}
use Rattle.program_ends.specs.Ends.{own_status}
use Rattle.program_ends.specs.Runs.{Answered, AnswersUntil, IsLinesRun, IsUnbegun}

twelve : (end : Option End) → ((end ≡ None) ⊎ (end ≡ Some ReadFault) ⊎ (end ≡ Some WriteFault) ⊎ (end ≡ Some InputTooLong) ⊎ (end ≡ Some OutOfMemory)) → 12 ≡ own_status end → end ≡ Some OutOfMemory
twelve end (inl e) own = absurd (omega (arith, own, ap own_status e))
twelve end (inr (inl e)) own = absurd (omega (arith, own, ap own_status e))
twelve end (inr (inr (inl e))) own = absurd (omega (arith, own, ap own_status e))
twelve end (inr (inr (inr (inl e)))) own = absurd (omega (arith, own, ap own_status e))
twelve end (inr (inr (inr (inr e)))) own = e

-- where memory never lacks for an answer
module _ {A : Type 0} (answers : A → Option (List ℕ) → List ℕ → A → Type 0) (lacks : A → Option (List ℕ) → A → Type 0) (never : (x : A) (line : Option (List ℕ)) (y : A) → lacks x line y → ⊥) (limit : ℕ) (a z : A) (left left' : Option (List ℕ)) where
  no_memory_unbegun : (end : Option End) (told : List ℕ) → (run : AnswersUntil answers lacks limit a z left left' end told) → end ≡ Some OutOfMemory → IsUnbegun a z left left' run.read run.lines
  no_memory_unbegun end told run e = elim (run.no_memory e) [
    | inl none ↦ none
    | inr next ↦ absurd (never run.last _ z next.3)
  ]

  same_first : (lines : List (List ℕ)) (told : List ℕ) (last : A) → Answered answers a lines told last → lines ≡ [] → last ≡ a
  same_first [] told last h e = h.1
  same_first (line ∷ lines) told last h e = absurd (cc)

  by_reason : (end : Option End) (told : List ℕ) → (run : AnswersUntil answers lacks limit a z left left' end told)
      → ((end ≡ None) ⊎ (end ≡ Some ReadFault) ⊎ (end ≡ Some WriteFault) ⊎ (end ≡ Some InputTooLong) ⊎ (end ≡ Some OutOfMemory)) → z ≡ run.last
  by_reason end told run (inl e) = run.state (λ m. absurd (cc))
  by_reason end told run (inr (inl e)) = run.state (λ m. absurd (cc))
  by_reason end told run (inr (inr (inl e))) = run.state (λ m. absurd (cc))
  by_reason end told run (inr (inr (inr (inl e)))) = run.state (λ m. absurd (cc))
  by_reason end told run (inr (inr (inr (inr e)))) =
      let none = no_memory_unbegun end told run e in
      none.same ∙ sym (same_first run.lines told run.last run.answered none.unanswered)

  -- the state at the end is the one behind the answered lines
  pub ends_at_last : (end : Option End) (told : List ℕ) → (run : AnswersUntil answers lacks limit a z left left' end told) → z ≡ run.last
  ends_at_last end told run = by_reason end told run run.reasons

module _ {A : Type 0} (answers : A → Option (List ℕ) → List ℕ → A → Type 0) (lacks : A → Option (List ℕ) → A → Type 0) (never : (x : A) (line : Option (List ℕ)) (y : A) → lacks x line y → ⊥) (limit : ℕ) (a z : A) where
  -- with status 12 nothing was read
  pub twelve_unbegun : (before after : Streams) (status : ℕ) → (run : IsLinesRun answers lacks limit a z before after status) → status ≡ 12 → IsUnbegun a z before.input.left after.input.left run.run.read run.run.lines
  twelve_unbegun before after status run e =
      let own = run.telling.told.others (λ q. omega (arith, e, q)) in
      no_memory_unbegun answers lacks never limit a z before.input.left after.input.left run.end run.told run.run (twelve run.end run.run.reasons (sym e ∙ own.0))
