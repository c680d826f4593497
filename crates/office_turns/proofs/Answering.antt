-- How an office that is kept beside its story goes on by one answer.
use Rattle.std.proofs.Common.{ℕ, ℤ, ◌≡◌, ◌≤◌, ◌⊎◌, inl, inr, All, List, [], ◌∷◌, ◌++◌, Option, None, Some, IfSome, option_map, refl, ap, sym, ◌∙◌, subst, arith}
use Rattle.std.proofs.lemmas.List.{append-nil}
use Rattle.std.proofs.lemmas.List.Elements.{All-cons, All-nil}
use Rattle.std.specs.declared.snapshot.Snapshot.{Snapshot}
use Rattle.desk_traits.specs.Crash.{AreCrashes, LeavesOnly}
use Rattle.desk_traits.specs.declared.disk.Disk.{Ghosts as Disks}
use Rattle.desk_traits.proofs.Moments.{weaker}
use Rattle.office_types.specs.declared.refusal.Refusal.{Refusal}
use Rattle.office_types.specs.declared.request.Reply.{Reply}
use Rattle.request_json.specs.Replies.{reply_text}
use Rattle.request_json.specs.declared.asked.Asked.{Asked}
use Rattle.office_core.specs.Agreement.{ReadsAsTheBoard}
use Rattle.office_core.specs.Histories.{Entered}
use Rattle.office_core.specs.Prepared.{Readied}
use Rattle.office_core.specs.State.{State}
use Rattle.office_core.specs.Step.{Refuses, Repeats}
use Rattle.office_journal.specs.Changes.{Change, Leaves, changed}
use Rattle.office_journal.specs.Given.{Gave, GivesNext, IsFront, MayPend}
use Rattle.office_journal.specs.Grown.{StaysSince, Stood}
use Rattle.office_journal.specs.Histories.{History, ImageOf, IsHistory}
use Rattle.office_journal.specs.Kept.{Holds, disk_of, state_of}
use Rattle.office_journal.specs.Outcomes.{AtAnyMoment, Becomes, HasEntered, HasFailed, IsAsBefore, Names}
use Rattle.office_journal.specs.Submitting.{IsOffered, IsTooLong, MayTouch, entered}
use Rattle.office_journal.specs.declared.answers.Answer.{Answer}
use Rattle.office_journal.specs.declared.answers.Answer.TheVariants.{Accepted, Repeated, Refused, DiskFault, OutOfMemory}
use Rattle.office_journal.specs.declared.kept.KeptOffice.{KeptOffice}
use Rattle.office_journal.proofs.Fronts.{at_start}
use Rattle.turn_lock.specs.Story.{GrowsByOneAtMost}
use Rattle.office_turns.specs.Happenings.{gave_of, given_by, state_at, stood_by}
use Rattle.office_turns.specs.Noting.{Notes}
use Rattle.office_turns.specs.Since.{IsEntryAt, IsSince}
use Rattle.office_turns.specs.Submitted.{Submitted}
use Rattle.office_turns.specs.declared.happening.Happening.{Happening}
use Rattle.office_turns.specs.declared.happening.Happening.TheVariants.{Entry, Fault}
use Rattle.office_turns.proofs.Joining.{Was, since_both, still_pends}

-- what is pending behind a fault
pends_failed : (pending next : Option Change) (this : Change) → MayTouch pending this next → IfSome next (MayPend (Was pending) (Gave.faulted this ∷ []))
pends_failed pending None this touch = tt
pends_failed pending (Some change) this touch = touch

-- entries that may be offered for the request, replies that may be given again, and rules that it may break
abbrev pub Offered : {D : Type 0} {d : Disks D} → KeptOffice D d → Asked → ℤ → Entered → Type 0
Offered old a reading = IsOffered (state_of old) a.desk a.seq a.request reading

abbrev pub Replied : {D : Type 0} {d : Disks D} → KeptOffice D d → Asked → List ℕ → Type 0
Replied old a text = (kept : Reply) × Repeats (state_of old) a.desk a.seq a.request kept × (text ≡ reply_text kept)

abbrev pub Broken : {D : Type 0} {d : Disks D} → KeptOffice D d → Asked → ℤ → Refusal → Type 0
Broken old a reading = Refuses (state_of old) a.desk a.seq a.request reading

-- what the kept office tells of a request that was submitted
pub record Told {D : Type 0} (d : Disks D) (old new : KeptOffice D d) (a : Asked) (reading : ℤ) (answer : Answer) (told : Option (Snapshot Readied)) : Type 0 where
  pub becomes : Becomes d.seen d.crash d.faults old new (Offered old a reading) (Replied old a) (Broken old a reading) answer
  pub names : Names d.seen d.crash d.faults old new (Offered old a reading) (Replied old a) (Broken old a reading) answer (option_map (λ (t : Snapshot Readied). t.value) told)
  pub later : d.faults (disk_of old) ≤ d.faults (disk_of new)

-- what has become of the office since it was opened, what the answer says, and that one happening more stands behind the others at most
pub record CameOf {D : Type 0} (d : Disks D) (opened new : KeptOffice D d) (a : Asked) (reading : ℤ) (answer : Answer) (xs zs : List (Happening D d)) : Type 0 where
  pub since : IsSince d opened new zs
  pub submitted : Submitted opened xs zs a reading answer
  pub grows : GrowsByOneAtMost xs zs

module _ {D : Type 0} (d : Disks D)
    (are_crashes : (x : D) → AreCrashes (d.crash x)) where
  -- what a crash leaves of a kept office with nothing pending
  left_alone : (kept : KeptOffice D d) (file : List ℕ) (h : History) (c : List ℕ) → Holds d.seen d.crash kept file h None → (d.crash (disk_of kept)).may_leave c → ImageOf c file h
  left_alone kept file h c holds left = record { state = state_of kept; history = holds.history; image = holds.journal.rests c left }

  module _ (old new : KeptOffice D d) (a : Asked) (reading : ℤ) where
    is_entry : (x : Entered) → Offered old a reading x → IsEntryAt (state_of old) x
    is_entry x offered = record { desk = a.desk; seq = a.seq; request = a.request; reading = reading; offered = offered }

    -- a crash leaves a front of what the history is then
    fronts : (given : List Gave) → AtAnyMoment d.seen d.crash old new (GivesNext given) → (file : List ℕ) (h : History) (pending : Option Change) → Holds d.seen d.crash old file h pending
        → LeavesOnly (d.crash (disk_of old)) (d.crash (disk_of new)) (IsFront (Was pending) given [] file h)
    fronts given moments file h pending holds =
        weaker d.crash are_crashes (disk_of old) (disk_of new) (Leaves file h (λ change. (pending ≡ Some change) ⊎ GivesNext given change)) (IsFront (Was pending) given [] file h)
        (λ c leaves. at_start (Was pending) given file h c leaves) (moments file h pending holds)

    since_nothing : IsAsBefore d.seen d.crash old new → IsSince d old new []
    since_nothing same = record {
      state = same.state;
      gate = same.gate;
      entries = (let e = same.entries in omega arith);
      lawful = tt;
      legal = λ file h has. record {
        history = subst (IsHistory file h) (sym same.state) has.history;
        entries = same.entries ∙ has.entries;
        gate = same.gate ∙ has.gate;
      };
      reads = λ reads. subst ReadsAsTheBoard (sym same.state) reads;
      later = (let e = ap d.faults same.disk in omega arith);
      counted = (let e = ap d.faults same.disk in omega arith);
      steady = λ none. ap d.faults same.disk;
      held = λ file h was holds. record {
        pending = was;
        holds = same.held file h was holds;
        which = still_pends was;
        crashes = fronts [] same.moments file h was holds;
        stays = All-nil (λ stood. StaysSince d stood (disk_of new) (Was was) [] file h);
      };
    }

    -- a crash since the answer leaves the history with the entry
    answered : (p : Snapshot Readied) (now : Snapshot (KeptOffice D d)) → now.value ≡ new → (file : List ℕ) (h : History) (was : Option Change) → Holds d.seen d.crash new file (changed h (Change.entry (entered p.value))) None
        → All (λ stood. StaysSince d stood (disk_of new) (Was was) (given_by (Entry p now ∷ [])) file h) (stood_by [] (Entry p now ∷ []))
    answered p now same file h was holds =
        let given = gave_of (Entry p now) ∷ [] in
        let P : Stood D → Type 0 = λ stood. StaysSince d stood (disk_of new) (Was was) given file h in
        let stood : Stood D = record { held = given; disk = disk_of now.value } in
        let at : disk_of now.value ≡ disk_of new = ap (λ (k : KeptOffice D d). disk_of k) same in
        All-cons P stood [] (record {
          more = [];
          are = refl;
          later = (let e = ap (λ (x : D). (d.crash x).moment) at in omega arith);
          leaves = λ c left.
              let since = subst (λ (x : D). (d.crash (disk_of new)).left_since (d.crash x).moment c) at left in
              record {
                more = [];
                rest = [];
                are = refl;
                left = inl (left_alone new file (changed h (Change.entry (entered p.value))) c holds ((are_crashes (disk_of new)).only_now c since));
              };
        }) (All-nil P)

    since_entry : (p : Snapshot Readied) (now : Snapshot (KeptOffice D d)) → now.value ≡ new → Offered old a reading (entered p.value) → HasEntered d.seen d.crash d.faults old new (entered p.value) → IsSince d old new (Entry p now ∷ [])
    since_entry p now same offered has = record {
      state = has.state;
      gate = has.gate;
      entries = has.entries;
      lawful = (is_entry (entered p.value) offered, tt);
      legal = has.legal;
      reads = λ reads. has.reads;
      later = (let e = has.steady in omega arith);
      counted = (let e = has.steady in omega arith);
      steady = λ none. has.steady;
      held = λ file h was holds. record {
        pending = None;
        holds = (has.held file h was holds).0;
        which = tt;
        crashes = fronts (Gave.added (Change.entry (entered p.value)) ∷ []) has.moments file h was holds;
        stays = answered p now same file h was (has.held file h was holds).0;
      };
    }

    since_fault : (p : Snapshot Readied) → Offered old a reading (entered p.value) → HasFailed d.seen d.crash d.faults old new (entered p.value) → d.faults (disk_of old) ≤ d.faults (disk_of new) → IsSince d old new (Fault p ∷ [])
    since_fault p offered failed later = record {
      state = failed.state;
      gate = failed.gate;
      entries = (let e = failed.entries in omega arith);
      lawful = (is_entry (entered p.value) offered, tt);
      legal = λ file h has. record {
        history = subst (IsHistory file h) (sym failed.state) has.history;
        entries = failed.entries ∙ has.entries;
        gate = failed.gate ∙ has.gate;
      };
      reads = λ reads. subst ReadsAsTheBoard (sym failed.state) reads;
      later = later;
      counted = (let c = failed.cause in omega arith);
      steady = λ none. absurd (omega (arith, none));
      held = λ file h was holds.
          let next = failed.held file h was holds in
          record {
            pending = next.0;
            holds = next.2;
            which = pends_failed was next.0 (Change.entry (entered p.value)) next.1;
            crashes = fronts (Gave.faulted (Change.entry (entered p.value)) ∷ []) failed.moments file h was holds;
            stays = All-nil (λ stood. StaysSince d stood (disk_of new) (Was was) (Gave.faulted (Change.entry (entered p.value)) ∷ []) file h);
          };
    }

  module _ (opened old new : KeptOffice D d) (a : Asked) (reading : ℤ) (xs zs : List (Happening D d)) (first : IsSince d opened old xs) where
    -- what is true of the state and the gate of now is true of those after what has happened
    there : (P : State → Type 0) → P (state_of old) → P (state_at opened xs)
    there P p = subst P first.state p

    -- what is said of one happening more
    and_then : (x : Happening D d) → zs ≡ xs ++ x ∷ [] → IsSince d old new (x ∷ []) → IsSince d opened new zs
    and_then x is since = subst (IsSince d opened new) (sym is) (since_both d are_crashes opened old new xs (x ∷ []) first since)

    stays : IsAsBefore d.seen d.crash old new → zs ≡ xs → IsSince d opened new zs
    stays same is = subst (IsSince d opened new) (append-nil xs ∙ sym is) (since_both d are_crashes opened old new xs [] first (since_nothing old new a reading same))

    entered_as : (text : List ℕ) (p : Snapshot Readied) (r : Readied) → p.value ≡ r → (now : Snapshot (KeptOffice D d)) → now.value ≡ new → zs ≡ xs ++ Entry p now ∷ [] → Offered old a reading (entered r) → text ≡ reply_text r.entry.reply → HasEntered d.seen d.crash d.faults old new (entered r)
        → CameOf d opened new a reading (Accepted text) xs zs
    entered_as text p r same now stands is offered said has =
        let offered' : Offered old a reading (entered p.value) = subst (λ (q : Readied). Offered old a reading (entered q)) (sym same) offered in
        let has' = subst (λ (q : Readied). HasEntered d.seen d.crash d.faults old new (entered q)) (sym same) has in
        record {
          since = and_then (Entry p now) is (since_entry old new a reading p now stands offered' has');
          submitted = (p, now, is, there (λ (s : State). IsOffered s a.desk a.seq a.request reading (entered p.value)) offered', subst (λ (q : Readied). text ≡ reply_text q.entry.reply) (sym same) said);
          grows = inr (Entry p now, is);
        }

    failed_as : (p : Snapshot Readied) (r : Readied) → p.value ≡ r → zs ≡ xs ++ Fault p ∷ [] → Offered old a reading (entered r) → HasFailed d.seen d.crash d.faults old new (entered r) → d.faults (disk_of old) ≤ d.faults (disk_of new)
        → CameOf d opened new a reading DiskFault xs zs
    failed_as p r same is offered failed later =
        let offered' : Offered old a reading (entered p.value) = subst (λ (q : Readied). Offered old a reading (entered q)) (sym same) offered in
        let failed' = subst (λ (q : Readied). HasFailed d.seen d.crash d.faults old new (entered q)) (sym same) failed in
        record {
          since = and_then (Fault p) is (since_fault old new a reading p offered' failed' later);
          submitted = (p, there (λ (s : State). IsOffered s a.desk a.seq a.request reading (entered p.value)) offered', subst (λ (n : ℕ). IsTooLong n (entered p.value) → ⊥) first.gate failed'.room, is);
          grows = inr (Fault p, is);
        }

    -- what the kept office tells beside an answer
    abbrev NamedBy : Answer → Option (Snapshot Readied) → Type 0
    NamedBy answer told = Names d.seen d.crash d.faults old new (Offered old a reading) (Replied old a) (Broken old a reading) answer (option_map (λ (t : Snapshot Readied). t.value) told)

    came_accepted : (text : List ℕ) (told : Option (Snapshot Readied)) → NamedBy (Accepted text) told → Notes (Accepted text) told new xs zs → CameOf d opened new a reading (Accepted text) xs zs
    came_accepted text None names notes = absurd (let e = names.1 in cc)
    came_accepted text (Some t) names notes =
        let noted = notes t refl in
        entered_as text t names.0 (let e = names.1 in cc) noted.0 noted.1 noted.2 names.2 names.3 names.4

    came_failed : (told : Option (Snapshot Readied)) → NamedBy DiskFault told → d.faults (disk_of old) ≤ d.faults (disk_of new) → Notes DiskFault told new xs zs → CameOf d opened new a reading DiskFault xs zs
    came_failed None names later notes = absurd (let e = names.1 in cc)
    came_failed (Some t) names later notes = failed_as t names.0 (let e = names.1 in cc) (notes t refl) names.2 names.3 later

    came_by : (answer : Answer) (told : Option (Snapshot Readied)) → Becomes d.seen d.crash d.faults old new (Offered old a reading) (Replied old a) (Broken old a reading) answer → NamedBy answer told
        → d.faults (disk_of old) ≤ d.faults (disk_of new) → Notes answer told new xs zs → CameOf d opened new a reading answer xs zs
    came_by (Accepted text) told becomes names later notes = came_accepted text told names notes
    came_by (Repeated text) told becomes names later notes =
        let r = becomes.0 in record {
          since = stays becomes.1 notes;
          submitted = (r.0, there (λ (s : State). Repeats s a.desk a.seq a.request r.0) r.1, r.2, notes);
          grows = inl notes;
        }
    came_by (Refused broken) told becomes names later notes = record {
      since = stays becomes.1 notes;
      submitted = (
        elim becomes.0 [
          | inl broke ↦ inl (there (λ (s : State). Refuses s a.desk a.seq a.request reading broken) broke)
          | inr full ↦ inr (full.0, full.1, there (λ (s : State). IsOffered s a.desk a.seq a.request reading full.1) full.2, subst (λ (n : ℕ). IsTooLong n full.1) first.gate full.3)
        ],
        notes,
      );
      grows = inl notes;
    }
    came_by DiskFault told becomes names later notes = came_failed told names later notes
    came_by OutOfMemory told becomes names later notes = record {
      since = stays becomes notes;
      submitted = notes;
      grows = inl notes;
    }

    -- the reading, the list of before and the office of now may be told by other terms
    pub came_of : (z : ℤ) (ys : List (Happening D d)) (now : KeptOffice D d) (answer : Answer) (told : Option (Snapshot Readied)) → z ≡ reading → ys ≡ xs → now ≡ new → Told d old new a z answer told → Notes answer told now ys zs → CameOf d opened new a reading answer xs zs
    came_of z ys now answer told at begin stands is notes =
        let is' = subst (λ (n : ℤ). Told d old new a n answer told) at is in
        let notes' = subst (λ (k : KeptOffice D d). Notes answer told k ys zs) stands notes in
        came_by answer told is'.becomes is'.names is'.later (subst (λ (l : List (Happening D d)). Notes answer told new l zs) begin notes')
