-- What lists of happenings say, one list behind another.
use Rattle.std.proofs.Common.{ℕ, ◌≡◌, ◌⊎◌, inl, inr, ⊎_elim, ◌+◌, ◌≤◌, ◌<◌, ◌-◌, ◌^◌, min, List, [], ◌∷◌, ◌++◌, length, refl, sym, ap, ◌∙◌, arith}
use Rattle.std.proofs.lemmas.List.{append-nil, append_assoc}
use Rattle.desk_traits.specs.Faults.{Rose}
use Rattle.desk_traits.specs.declared.disk.Disk.{Ghosts as Disks}
use Rattle.office_core.specs.Histories.{Entered}
use Rattle.office_core.specs.State.{State}
use Rattle.office_core.specs.Step.{state_after}
use Rattle.office_journal.specs.Bodies.{entry_body}
use Rattle.office_journal.specs.Changes.{Change}
use Rattle.office_journal.specs.Given.{Gave, MayPend, entries_given, pends_after}
use Rattle.office_journal.specs.Grown.{NonePends, Stood}
use Rattle.office_journal.specs.Kept.{disk_of}
use Rattle.office_journal.proofs.Fronts.{entries_given_append}
use Rattle.office_turns.specs.Happenings.{entries_in, faults_in, gate_after, gave_of, given_by, state_behind, stood_by}
use Rattle.office_turns.specs.Since.{AreEntriesAt}
use Rattle.office_turns.specs.declared.happening.Happening.{Happening}
use Rattle.office_turns.specs.declared.happening.Happening.TheVariants.{Entry, Fault}

pub state_append : (s : State) (xs ys : List Entered) → state_behind s (xs ++ ys) ≡ state_behind (state_behind s xs) ys
state_append s [] ys = refl
state_append s (x ∷ xs) ys = state_append (state_after s x.entry x.made) xs ys

pub gate_append : (gate : ℕ) (xs ys : List Entered) → gate_after gate (xs ++ ys) ≡ gate_after (gate_after gate xs) ys
gate_append gate [] ys = refl
gate_append gate (x ∷ xs) ys = gate_append (gate + (5 + length (entry_body x))) xs ys

module _ {D : Type 0} {d : Disks D} where
  pub given_append : (xs ys : List (Happening D d)) → given_by (xs ++ ys) ≡ given_by xs ++ given_by ys
  given_append [] ys = refl
  given_append (x ∷ xs) ys = ap (λ (l : List Gave). gave_of x ∷ l) (given_append xs ys)

  pub entries_append : (xs ys : List (Happening D d)) → entries_in (xs ++ ys) ≡ entries_in xs ++ entries_in ys
  entries_append xs ys = ap entries_given (given_append xs ys) ∙ entries_given_append (given_by xs) (given_by ys)

  pub faults_append : (xs ys : List (Happening D d)) → faults_in (xs ++ ys) ≡ faults_in xs + faults_in ys
  faults_append [] ys = omega arith
  faults_append (Entry p now ∷ xs) ys = faults_append xs ys
  faults_append (Fault p ∷ xs) ys = let h = faults_append xs ys in omega arith

  -- the disk stood at the answers of both, at the latter with all of the former behind it
  pub stood_append : (held : List Gave) (xs ys : List (Happening D d)) → stood_by held (xs ++ ys) ≡ stood_by held xs ++ stood_by (held ++ given_by xs) ys
  stood_append held [] ys = ap (λ (l : List Gave). stood_by l ys) (sym (append-nil held))
  stood_append held (Entry p now ∷ xs) ys =
      let one = gave_of (Entry p now) ∷ [] in
      let first : Stood D = record { held = held ++ one; disk = disk_of now.value } in
      ap (λ (l : List (Stood D)). first ∷ l)
      (stood_append (held ++ one) xs ys ∙ ap (λ (l : List Gave). stood_by (held ++ one) xs ++ stood_by l ys) (append_assoc held one (given_by xs)))
  stood_append held (Fault p ∷ xs) ys =
      let one = gave_of {D = D} {d = d} (Fault p) ∷ [] in
      stood_append (held ++ one) xs ys ∙ ap (λ (l : List Gave). stood_by (held ++ one) xs ++ stood_by l ys) (append_assoc held one (given_by xs))

  pub lawful_append : (s : State) (xs ys : List (Happening D d)) → AreEntriesAt s xs → AreEntriesAt (state_behind s (entries_in xs)) ys → AreEntriesAt s (xs ++ ys)
  lawful_append s [] ys first second = second
  lawful_append s (Entry p now ∷ xs) ys first second = (first.0, lawful_append (state_after s p.value.entry p.value.made) xs ys first.1 second)
  lawful_append s (Fault p ∷ xs) ys first second = (first.0, lawful_append s xs ys first.1 second)

  -- what may pend did before, or the disk has failed
  failed_under : (may : Change → Type 0) (xs : List (Happening D d)) (change : Change) → MayPend may (given_by xs) change → may change ⊎ (0 < faults_in xs)
  failed_under may [] change pends = inl pends
  failed_under may (Entry p now ∷ xs) change pends = ⊎_elim (λ never. absurd never) (λ some. inr some) (failed_under (pends_after may (gave_of (Entry p now))) xs change pends)
  failed_under may (Fault p ∷ xs) change pends =
      ⊎_elim (⊎_elim (λ was. inl was) (λ is. inr (omega arith))) (λ some. inr (omega (arith, some))) (failed_under (pends_after may (gave_of {D = D} {d = d} (Fault p))) xs change pends)

  -- where a change may pend that did not before the disk's count of faults has risen
  pub rose_since : (before now : ℕ) (xs : List (Happening D d)) (change : Change) → MayPend NonePends (given_by xs) change → min (before + faults_in xs) (2 ^ 64 - 1) ≤ now → Rose before now
  rose_since before now xs change pends counted = ⊎_elim (λ never. absurd never) (λ some. omega (arith, some, counted)) (failed_under NonePends xs change pends)
