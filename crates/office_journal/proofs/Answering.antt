-- What becomes of a kept office between the start of a request and its answer: what is prepared leaves the state as it was.
use Rattle.std.proofs.Common.{◌≡◌, ◌≢◌, ◌⊎◌, ◌+◌, ◌-◌, ◌^◌, min, inl, inr, ⊎_elim, ℕ, ℤ, List, Option, Some, IfSome, length, option_map, refl, sym, ◌∙◌, ap, subst}
use Rattle.desk_traits.specs.Crash.{Crashes, LeavesOnly}
use Rattle.desk_traits.specs.Faults.{Rose}
use Rattle.office_types.specs.declared.refusal.Refusal.{Refusal}
use Rattle.office_types.specs.declared.request.Reply.{Reply}
use Rattle.office_types.specs.declared.request.Request.{Request}
use Rattle.journal_core.specs.Kept.{Keeps}
use Rattle.request_json.specs.Replies.{reply_text}
use Rattle.office_core.specs.Histories.{Entered}
use Rattle.office_core.specs.Prepared.{IsReady, Readied}
use Rattle.office_core.specs.State.{State, said_by}
use Rattle.office_core.specs.Step.{Accepts, Repeats, entry_of, state_after}
use Rattle.office_core.specs.Views.{OfficeView}
use Rattle.office_core.specs.declared.heard.LastRequest.{LastRequest}
use Rattle.office_journal.specs.Bodies.{entry_body}
use Rattle.office_journal.specs.Changes.{Change, Leaves, body_of}
use Rattle.office_journal.specs.Histories.{History, IsHistory, bodies}
use Rattle.office_journal.specs.Kept.{HasHistory, Holds, disk_of, entries_of, gate_of, notes_of, state_of}
use Rattle.office_journal.specs.Outcomes.{AtAnyMoment, Becomes, HasEntered, HasFailed, IsAgain, IsAsBefore, Names, ComesWith}
use Rattle.office_journal.specs.Submitting.{IsAsked, IsOffered, IsTooLong, entered}
use Rattle.office_journal.specs.declared.answers.Answer.{Answer}
use Rattle.office_journal.specs.declared.answers.Answer.TheVariants.{Accepted, Repeated, Refused, DiskFault, OutOfMemory}
use Rattle.office_journal.specs.declared.kept.KeptOffice.{KeptOffice}
use Rattle.office_journal.proofs.Carrying.{leaves_less}

-- what was prepared is offered
pub ready_offered : (o : OfficeView) (s : State) (desk : List ℕ) (seq : ℕ) (r : Request) (reading : ℤ) (p : Readied) → o.state ≡ s → IsReady o desk seq r reading p → IsOffered s desk seq r reading (entered p)
ready_offered o s desk seq r reading p same ready = record {
  accepted = subst (λ (z : State). Accepts z desk seq r reading p.entry.minute p.made) same ready.accepted;
  entry = ready.entry ∙ ap (λ (z : State). entry_of z desk seq r p.entry.minute p.made) same;
}

module _ {D : Type 0} {d : _} (seen : D → Option (List ℕ)) (crash : D → Crashes) (old mid : KeptOffice D d)
    (journal : mid.journal ≡ old.journal) (state : state_of mid ≡ state_of old) (entries : entries_of mid ≡ entries_of old) (notes : notes_of mid ≡ notes_of old) where
  pub holds_on : (file : List ℕ) (h : History) (pending : Option Change) → Holds seen crash old file h pending → Holds seen crash mid file h pending
  holds_on file h pending holds = record {
    journal = subst (λ j. Keeps seen crash j (bodies file h) (option_map body_of pending)) (sym journal) holds.journal;
    history = subst (λ (z : State). IsHistory file h z) (sym state) holds.history;
    entries = entries ∙ holds.entries;
    change = holds.change;
  }

  disk_same : disk_of mid ≡ disk_of old
  disk_same = ap (λ j. j.disk) journal

  gate_same : gate_of mid ≡ gate_of old
  gate_same = ap (λ j. j.gate) journal

  history_on : (file : List ℕ) (h : History) → HasHistory old file h → HasHistory mid file h
  history_on file h has = record {
    history = subst (λ (z : State). IsHistory file h z) (sym state) has.history;
    entries = entries ∙ has.entries;
    gate = gate_same ∙ has.gate;
  }

  -- with what was prepared, all is as it was
  pub still_as_before : AtAnyMoment seen crash old old (λ change. ⊥) → IsAsBefore seen crash old mid
  still_as_before now = record {
    disk = disk_same;
    gate = gate_same;
    state = state;
    entries = entries;
    notes = notes;
    held = holds_on;
    moments = λ file h pending holds. subst (λ (z : D). LeavesOnly (crash (disk_of old)) (crash z) (Leaves file h (λ change. (pending ≡ Some change) ⊎ ⊥))) (sym disk_same) (now file h pending holds);
  }

  module _ (new : KeptOffice D d) where
    moments_on : (gives : Change → Type 0) → AtAnyMoment seen crash mid new gives → AtAnyMoment seen crash old new gives
    moments_on gives is file h pending holds = subst (λ (z : D). LeavesOnly (crash z) (crash (disk_of new)) (Leaves file h (λ change. (pending ≡ Some change) ⊎ gives change))) disk_same (is file h pending (holds_on file h pending holds))

    as_before_on : IsAsBefore seen crash mid new → IsAsBefore seen crash old new
    as_before_on is = record {
      disk = is.disk ∙ disk_same;
      gate = is.gate ∙ gate_same;
      state = is.state ∙ state;
      entries = is.entries ∙ entries;
      notes = is.notes ∙ notes;
      held = λ file h pending holds. is.held file h pending (holds_on file h pending holds);
      moments = moments_on (λ change. ⊥) is.moments;
    }

    module _ (faults : D → ℕ) where
      entered_on : (x : Entered) → HasEntered seen crash faults mid new x → HasEntered seen crash faults old new x
      entered_on x is = record {
        steady = subst (λ (z : D). faults (disk_of new) ≡ faults z) disk_same is.steady;
        gate = is.gate ∙ ap (λ (n : ℕ). n + (5 + length (entry_body x))) gate_same;
        state = is.state ∙ ap (λ (z : State). state_after z x.entry x.made) state;
        entries = is.entries ∙ ap (λ (n : ℕ). n + 1) entries;
        notes = is.notes ∙ notes;
        reads = is.reads;
        legal = λ file h has. is.legal file h (history_on file h has);
        held = λ file h pending holds. is.held file h pending (holds_on file h pending holds);
        moments = moments_on (λ change. change ≡ Change.entry x) is.moments;
      }

      failed_on : (x : Entered) → HasFailed seen crash faults mid new x → HasFailed seen crash faults old new x
      failed_on x is = record {
        cause = subst (λ (z : D). Rose (faults z) (faults (disk_of new))) disk_same is.cause;
        gate = is.gate ∙ gate_same;
        room = λ long. is.room (subst (λ (n : ℕ). IsTooLong n x) (sym gate_same) long);
        state = is.state ∙ state;
        entries = is.entries ∙ entries;
        notes = is.notes ∙ ap (λ (n : ℕ). min (n + 1) (2 ^ 64 - 1)) notes;
        held = λ file h pending holds. is.held file h pending (holds_on file h pending holds);
        moments = moments_on (λ change. change ≡ Change.entry x) is.moments;
      }

      module _ (y : Entered) (offered : Entered → Type 0) (kept : List ℕ → Type 0) (broken : Refusal → Type 0) (so : offered y) where
        is_offered : (x : Entered) → x ≡ y → offered x
        is_offered x is = subst offered (sym is) so

        -- what becomes of it where what was prepared is kept
        pub becomes_on : (answer : Answer) → Becomes seen crash faults mid new (λ x. x ≡ y) (λ text. ⊥) (λ x. ⊥) answer → Becomes seen crash faults old new offered kept broken answer
        becomes_on (Accepted text) (x, is, reply, has) = (x, is_offered x is, reply, entered_on x has)
        becomes_on (Repeated text) (never, same) = absurd never
        becomes_on (Refused r) (why, same) = (⊎_elim (λ never. absurd never) (λ full. inr (full.0, full.1, is_offered full.1 full.2, subst (λ (n : ℕ). IsTooLong n full.1) gate_same full.3)) why, as_before_on same)
        becomes_on DiskFault (x, is, has) = (x, is_offered x is, failed_on x has)
        becomes_on OutOfMemory same = as_before_on same

  -- what stands beside the answer
  pub names_on : (new : KeptOffice D d) (faults : D → ℕ) (p : Readied) (offered : Entered → Type 0) (kept : List ℕ → Type 0) (broken : Refusal → Type 0) → offered (entered p)
      → (answer : Answer) (told : Option Readied) → Becomes seen crash faults mid new (λ x. x ≡ entered p) (λ text. ⊥) (λ x. ⊥) answer → ComesWith answer p told → Names seen crash faults old new offered kept broken answer told
  names_on new faults p offered kept broken so (Accepted text) told (x, is, reply, has) beside =
      (p, beside, so, reply ∙ ap (λ (y : Entered). reply_text y.entry.reply) is, subst (λ (y : Entered). HasEntered seen crash faults old new y) is (entered_on new faults x has))
  names_on new faults p offered kept broken so (Repeated text) told becomes beside = beside
  names_on new faults p offered kept broken so (Refused x) told becomes beside = beside
  names_on new faults p offered kept broken so DiskFault told (x, is, has) beside =
      (p, beside, so, subst (λ (y : Entered). HasFailed seen crash faults old new y) is (failed_on new faults x has))
  names_on new faults p offered kept broken so OutOfMemory told becomes beside = beside

  -- what becomes of it where the kept reply is answered
  module _ (faults : D → ℕ) (offered : Entered → Type 0) (broken : Refusal → Type 0) (desk : List ℕ) (seq : ℕ) (r : Request) (kept : Reply) (repeats : Repeats (state_of old) desk seq r kept) (now : AtAnyMoment seen crash old old (λ change. ⊥)) where
    pub becomes_again : (answer : Answer) → IsAgain (said_by (state_of mid) desk) answer → Becomes seen crash faults old mid offered (λ text. (kept : Reply) × Repeats (state_of old) desk seq r kept × (text ≡ reply_text kept)) broken answer
    becomes_again (Accepted text) is = absurd is
    becomes_again (Repeated text) is =
        let said : said_by (state_of mid) desk ≡ Some (record { seq = seq; request = r; reply = kept }) = ap (λ (z : State). said_by z desk) state ∙ repeats.same in
        ((kept, repeats, subst (λ (o : Option LastRequest). IfSome o (λ (s : LastRequest). text ≡ reply_text s.reply)) said is), still_as_before now)
    becomes_again (Refused x) is = absurd is
    becomes_again DiskFault is = absurd is
    becomes_again OutOfMemory is = still_as_before now

-- what a crash leaves while what was prepared is kept
pub asked_less : (s : State) (desk : List ℕ) (seq : ℕ) (r : Request) (reading : ℤ) (x : Entered) → IsOffered s desk seq r reading x → (file : List ℕ) (h : History) (pending : Option Change) (c : List ℕ)
    → Leaves file h (λ change. (pending ≡ Some change) ⊎ (change ≡ Change.entry x)) c → Leaves file h (λ change. (pending ≡ Some change) ⊎ IsAsked s desk seq r reading change) c
asked_less s desk seq r reading x so file h pending c left =
    leaves_less file h (λ change. (pending ≡ Some change) ⊎ (change ≡ Change.entry x)) (λ change. (pending ≡ Some change) ⊎ IsAsked s desk seq r reading change)
    (λ change is. ⊎_elim (λ was. inl was) (λ this. inr (x, so, this)) is) c left

-- but for an entry and a disk fault the disk and what it holds are as they were
pub untouched : {D : Type 0} {d : _} (seen : D → Option (List ℕ)) (crash : D → Crashes) (faults : D → ℕ) (old new : KeptOffice D d) (offered : Entered → Type 0) (kept : List ℕ → Type 0) (broken : Refusal → Type 0) (answer : Answer)
    → Becomes seen crash faults old new offered kept broken answer → ((text : List ℕ) → answer ≢ Accepted text) → answer ≢ DiskFault
    → (disk_of new ≡ disk_of old) × ((file : List ℕ) (h : History) (pending : Option Change) → Holds seen crash old file h pending → Holds seen crash new file h pending)
untouched seen crash faults old new offered kept broken (Accepted text) is no_entry no_fault = absurd (no_entry text refl)
untouched seen crash faults old new offered kept broken (Repeated text) is no_entry no_fault = (is.1.disk, is.1.held)
untouched seen crash faults old new offered kept broken (Refused r) is no_entry no_fault = (is.1.disk, is.1.held)
untouched seen crash faults old new offered kept broken DiskFault is no_entry no_fault = absurd (no_fault refl)
untouched seen crash faults old new offered kept broken OutOfMemory is no_entry no_fault = (is.disk, is.held)
