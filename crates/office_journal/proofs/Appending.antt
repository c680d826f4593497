-- What becomes of a kept office where the entry of what was prepared is appended.
use Rattle.std.proofs.Common.{◌≡◌, ◌≤◌, ◌+◌, ◌⊎◌, inl, inr, ℕ, ℤ, pos, List, [], ◌∷◌, ◌++◌, length, Option, None, Some, option_map, refl, sym, ◌∙◌, ap, subst, arith, length-append}
use Rattle.desk_traits.specs.Crash.{AreCrashes, Crashes}
use Rattle.desk_traits.specs.File.{Only}
use Rattle.desk_traits.proofs.Moments.{nothing}
use Rattle.office_types.specs.declared.request.Request.{Request}
use Rattle.journal_core.specs.Image.{IsOneOf, records}
use Rattle.journal_core.specs.Journal.{MayPend}
use Rattle.journal_core.specs.Kept.{Keeps}
use Rattle.office_core.specs.Histories.{Entered}
use Rattle.office_core.specs.Prepared.{Readied}
use Rattle.office_core.specs.State.{State}
use Rattle.office_core.specs.Step.{Accepts, state_after}
use Rattle.office_core.specs.declared.made.Made.{Made}
use Rattle.office_journal.specs.Bodies.{entry_body}
use Rattle.office_journal.specs.Changes.{Change, Leaves, MayChange, body_of, changed}
use Rattle.office_journal.specs.Histories.{History, IsHistory, bodies}
use Rattle.office_journal.specs.Kept.{HasHistory, Holds, disk_of, entries_of, gate_of, state_of}
use Rattle.office_journal.specs.Outcomes.{AtAnyMoment, Becomes, IsAsBefore, IsUnkept}
use Rattle.office_journal.specs.Submitting.{MayEnter, MayTouch, entered}
use Rattle.office_journal.specs.declared.answers.Answer.{Answer}
use Rattle.office_journal.specs.declared.answers.Answer.TheVariants.{Accepted, Repeated, Refused, DiskFault, OutOfMemory}
use Rattle.office_journal.specs.declared.kept.KeptOffice.{KeptOffice}
use Rattle.office_journal.proofs.Carrying.{grown_bodies, leaves_less, left_between, pending_then}
use Rattle.office_journal.proofs.Entering.{Follows, follows}
use Rattle.office_journal.proofs.Growing.{bodies_grow, records_push}

-- a request that is accepted at a reading is accepted at its own minute
abbrev pub AreInTime : Type 0
AreInTime = (s : State) (desk : List ℕ) (seq : ℕ) (r : Request) (reading : ℤ) (t : ℕ) (made : Option Made) → s.last ≤ 52000000 → Accepts s desk seq r reading t made → Accepts s desk seq r (pos t) t made

one_more : (entries : List Entered) (x : Entered) (n m : ℕ) → n ≡ length entries → m ≡ n + 1 → m ≡ length (entries ++ x ∷ [])
one_more entries x n m is more = omega (arith, is, more, length-append entries (x ∷ []))

module _ {D : Type 0} {d : _} (seen : D → Option (List ℕ)) (crash : D → Crashes) (old : KeptOffice D d) (file : List ℕ) (h : History) (pending : Option Change) (holds : Holds seen crash old file h pending)
    (this : Change) (body : List ℕ) (so : MayChange file h this) (written : body ≡ body_of this) where
  -- after a fault this change is pending, or what was pending is, or nothing
  pub still_held : (new : KeptOffice D d) → state_of new ≡ state_of old → entries_of new ≡ entries_of old
      → (next : Option (List ℕ)) → MayPend (option_map body_of pending) body next → Keeps seen crash new.journal (bodies file h) next
      → (next : Option Change) × MayTouch pending this next × Holds seen crash new file h next
  still_held new state entries next touch kept =
      let then = pending_then file h old.office.state holds.history pending this body holds.change so written next touch in (
        then.0,
        then.1,
        record {
          journal = subst (λ (o : Option (List ℕ)). Keeps seen crash new.journal (bodies file h) o) (sym then.2) kept;
          history = subst (λ (z : State). IsHistory file h z) (sym state) holds.history;
          entries = entries ∙ holds.entries;
          change = then.3;
        },
      )

module _ {D : Type 0} {d : _} (seen : D → Option (List ℕ)) (crash : D → Crashes) (old : KeptOffice D d) (p : Readied) (law : AreInTime) (may : MayEnter old.office p)
    (body : List ℕ) (written : body ≡ body_of (Change.entry (entered p))) (room : gate_of old + 6 + length body ≤ 268435456)
    (file : List ℕ) (h : History) (pending : Option Change) (holds : Holds seen crash old file h pending) where
  behind : Follows file h old.office.state p
  behind = follows file h old.office holds.history may.desk may.seq may.request may.reading p may.form may.ready
      (law old.office.state may.desk may.seq may.request may.reading p.entry.minute p.made) (gate_of old) holds.journal.place body written room

  -- the entry stands in the journal
  pub held_then : (new : KeptOffice D d) → state_of new ≡ state_after (state_of old) p.entry p.made → entries_of new ≡ entries_of old + 1
      → Keeps seen crash new.journal (bodies file h ++ body ∷ []) None × Only (seen (disk_of new)) (crash (disk_of new)).may_leave
      → Holds seen crash new file (changed h (Change.entry (entered p))) None × Only (seen (disk_of new)) (crash (disk_of new)).may_leave
  held_then new state entries kept = (
    record {
      journal = grown_bodies file h old.office.state holds.history (Change.entry (entered p)) body behind.may written (λ (bs : List (List ℕ)). Keeps seen crash new.journal bs None) kept.0;
      history = subst (λ (z : State). IsHistory file (changed h (Change.entry (entered p))) z) (sym state) behind.after;
      entries = one_more h.entries (entered p) (entries_of old) (entries_of new) holds.entries entries;
      change = tt;
    },
    kept.1,
  )

  -- it is pending, or what was pending is, or nothing
  pub held_still : (new : KeptOffice D d) → state_of new ≡ state_of old → entries_of new ≡ entries_of old
      → (next : Option (List ℕ)) → MayPend (option_map body_of pending) body next → Keeps seen crash new.journal (bodies file h) next
      → (next : Option Change) × MayTouch pending (Change.entry (entered p)) next × Holds seen crash new file h next
  held_still new state entries next touch kept =
      still_held seen crash old file h pending holds (Change.entry (entered p)) body behind.may written new state entries next touch kept

  -- what a crash leaves in between
  pub left_then : (c : List ℕ) → IsOneOf (bodies file h) (option_map body_of pending) body c → Leaves file h (λ change. (pending ≡ Some change) ⊎ (change ≡ Change.entry (entered p))) c
  left_then c one = left_between file h old.office.state holds.history pending (Change.entry (entered p)) body holds.change behind.may written (λ change. change ≡ Change.entry (entered p)) refl c one

module _ {D : Type 0} {d : _} (old : KeptOffice D d) (p : Readied) (law : AreInTime) (may : MayEnter old.office p)
    (body : List ℕ) (written : body ≡ body_of (Change.entry (entered p))) (room : gate_of old + 6 + length body ≤ 268435456) (file : List ℕ) (h : History) (has : HasHistory old file h) where
  -- the history goes on by the entry
  pub legal_then : (new : KeptOffice D d) → state_of new ≡ state_after (state_of old) p.entry p.made → entries_of new ≡ entries_of old + 1 → gate_of new ≡ gate_of old + (length body + 5)
      → HasHistory new file (changed h (Change.entry (entered p)))
  legal_then new state entries gate =
      let behind = follows file h old.office has.history may.desk may.seq may.request may.reading p may.form may.ready
      (law old.office.state may.desk may.seq may.request may.reading p.entry.minute p.made) (gate_of old) has.gate body written room in
      let grows = ap (λ (l : List (List ℕ)). length (records l)) (bodies_grow file h (Change.entry (entered p)) old.office.state has.history behind.may) in
      record {
        history = subst (λ (z : State). IsHistory file (changed h (Change.entry (entered p))) z) (sym state) behind.after;
        entries = one_more h.entries (entered p) (entries_of old) (entries_of new) has.entries entries;
        gate = omega (arith, gate, ap length written, has.gate, records_push (bodies file h) (entry_body (entered p)), grows);
      }

-- what a crash leaves while nothing is done
pub at_rest : {D : Type 0} {d : _} (seen : D → Option (List ℕ)) (crash : D → Crashes) (are_crashes : (d : D) → AreCrashes (crash d)) (kept : KeptOffice D d)
    → ((file : List ℕ) (h : History) (pending : Option Change) (c : List ℕ) → Holds seen crash kept file h pending → (crash (disk_of kept)).may_leave c → Leaves file h (λ change. pending ≡ Some change) c)
    → (gives : Change → Type 0) → AtAnyMoment seen crash kept kept gives
at_rest seen crash are_crashes kept rests gives file h pending holds =
    let P : Change → Type 0 = λ change. (pending ≡ Some change) ⊎ gives change in
    nothing crash are_crashes (disk_of kept) (Leaves file h P) (λ c left. leaves_less file h (λ change. pending ≡ Some change) P (λ change now. inl now) c (rests file h pending c holds left))

-- where an entry is not appended, all is as it was
module _ {D : Type 0} {d : _} (seen : D → Option (List ℕ)) (crash : D → Crashes) (kept : KeptOffice D d) (now : AtAnyMoment seen crash kept kept (λ change. ⊥)) where
  pub as_before : IsAsBefore seen crash kept kept
  as_before = record { disk = refl; gate = refl; state = refl; entries = refl; notes = refl; held = λ file h pending holds. holds; moments = now }

  pub becomes_unkept : (faults : D → ℕ) (x : Entered) (answer : Answer) → IsUnkept (gate_of kept) x answer → Becomes seen crash faults kept kept (λ y. y ≡ x) (λ text. ⊥) (λ broken. ⊥) answer
  becomes_unkept faults x (Accepted text) is = absurd is
  becomes_unkept faults x (Repeated text) is = absurd is
  becomes_unkept faults x (Refused broken) is = (inr (is.0, x, refl, is.1), as_before)
  becomes_unkept faults x DiskFault is = absurd is
  becomes_unkept faults x OutOfMemory is = as_before
