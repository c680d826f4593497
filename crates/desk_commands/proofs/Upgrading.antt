-- What an upgrade leaves of the history.
use Rattle.std.proofs.Common.{ℕ, ◌≡◌, ◌≢◌, ◌≤◌, ◌<◌, ◌+◌, ◌⊎◌, ◌↔◌, inl, inr, ⊎_elim, List, [], ◌∷◌, Option, None, Some, IfSome, refl, ap, sym, ◌∙◌, subst, arith}
use Rattle.std.proofs.Math.Nat.{lt_of_not-le}
use Rattle.desk_traits.specs.Crash.{AreCrashes, LeavesOnly}
use Rattle.desk_traits.specs.Faults.{Rose}
use Rattle.desk_traits.specs.File.{Only}
use Rattle.desk_traits.specs.declared.disk.Disk.{Ghosts as Disks}
use Rattle.desk_traits.proofs.Moments.{ends, nothing, weaker}
use Rattle.office_types.specs.declared.request.Edition.{Edition}
use Rattle.office_types.specs.declared.request.Edition.TheVariants.{One, Two}
use Rattle.office_core.specs.Agreement.{ReadsAsTheBoard}
use Rattle.office_core.specs.State.{State, in_edition}
use Rattle.office_journal.specs.Changes.{Change, Leaves, changed}
use Rattle.office_journal.specs.Given.{Gave, IsFront, MayPend, history_after}
use Rattle.office_journal.specs.Grown.{NonePends}
use Rattle.office_journal.specs.Histories.{History}
use Rattle.office_journal.specs.Kept.{Holds, disk_of, gate_of, state_of}
use Rattle.office_journal.specs.Submitting.{MayTouch}
use Rattle.office_journal.specs.declared.answers.Upgrade.{Upgrade}
use Rattle.office_journal.specs.declared.answers.Upgrade.TheVariants as upgrade
use Rattle.office_journal.specs.declared.kept.KeptOffice.{KeptOffice}
use Rattle.byte_streams.specs.Flows.{Outflow}
use Rattle.desk_commands.specs.Commands.{IsMarked, WritesUpgrade, UpgradeOutcome, mark_given, marks_from}
use Rattle.office_journal.proofs.Fronts.{at_start}
use Rattle.desk_commands.proofs.Scripting.{Carries, less, pending_may, touched}

in_two : (s : State) → ReadsAsTheBoard s → ReadsAsTheBoard (in_edition Two s)
in_two s reads = record { whole = reads.whole; apart = reads.apart; lives = reads.lives; gapless = reads.gapless; rows = reads.rows }

abbrev pub OnlyMark : Change → Type 0
OnlyMark change = NonePends change ⊎ (change ≡ Change.marked)

module _ {D : Type 0} (d : Disks D) (old new : KeptOffice D d) where
  -- what `upgrade` says
  pub record Says (u : Upgrade) : Type 0 where
    pub done : u ≡ upgrade.Done → ((state_of old).edition ≡ One) × (state_of new ≡ in_edition Two (state_of old))
        × ((file : List ℕ) (h : History) (pending : Option Change) → Holds d.seen d.crash old file h pending
        → Holds d.seen d.crash new file (changed h Change.marked) None × Only (d.seen (disk_of new)) (d.crash (disk_of new)).may_leave)
    pub already : (u ≡ upgrade.Already) ↔ ((state_of old).edition ≡ Two)
    pub full : u ≡ upgrade.Full → ((state_of old).edition ≡ One) × (268435456 < gate_of old + 15)
    pub room : (state_of old).edition ≡ One → 268435456 < gate_of old + 15 → (u ≡ upgrade.Full) ⊎ (u ≡ upgrade.OutOfMemory)
    pub cause : u ≡ upgrade.DiskFault → ((state_of old).edition ≡ One) × Rose (d.faults (disk_of old)) (d.faults (disk_of new))
    pub failed : u ≡ upgrade.DiskFault → (file : List ℕ) (h : History) (pending : Option Change) → Holds d.seen d.crash old file h pending
        → (next : Option Change) × MayTouch pending Change.marked next × Holds d.seen d.crash new file h next
    pub state : u ≢ upgrade.Done → state_of new ≡ state_of old
    pub untouched : u ≢ upgrade.Done → u ≢ upgrade.DiskFault → (disk_of new ≡ disk_of old)
        × ((file : List ℕ) (h : History) (pending : Option Change) → Holds d.seen d.crash old file h pending → Holds d.seen d.crash new file h pending)
    pub later : d.faults (disk_of old) ≤ d.faults (disk_of new)
    pub any_moment : (file : List ℕ) (h : History) (pending : Option Change) → Holds d.seen d.crash old file h pending
        → LeavesOnly (d.crash (disk_of old)) (d.crash (disk_of new)) (Leaves file h (λ change. (pending ≡ Some change) ⊎ ((change ≡ Change.marked) × (h.edition ≡ One))))

  -- the mark that was appended had room
  has_room : Says upgrade.Done → gate_of old + 15 ≤ 268435456
  has_room says =
      let less = lt_of_not-le (λ (h : 268435457 ≤ gate_of old + 15). elim (says.room (says.done refl).0 (omega (arith, h))) [ inl q ↦ absurd (cc) | inr q ↦ absurd (cc) ]) in
      omega (arith, less)

  -- what it comes to, told of the disk that is handed back
  pub outcome : (u : Upgrade) (next : D) (before after : Outflow) (status : ℕ) → Says u → next ≡ disk_of new → WritesUpgrade u before after status → UpgradeOutcome d next old new before after status
  outcome upgrade.Done next before after status says is told = inl (ap (λ (s : State). s.edition) (says.done refl).1, inr (has_room says), told)
  outcome upgrade.Already next before after status says is told =
      inl (ap (λ (s : State). s.edition) (says.state (λ q. absurd (cc))) ∙ says.already.0 refl, inl (says.already.0 refl, is ∙ (says.untouched (λ q. absurd (cc)) (λ q. absurd (cc))).0), told)
  outcome upgrade.Full next before after status says is told =
      inr (inl (ap (λ (s : State). s.edition) (says.state (λ q. absurd (cc))) ∙ (says.full refl).0, (says.full refl).0, (says.full refl).1, is ∙ (says.untouched (λ q. absurd (cc)) (λ q. absurd (cc))).0, told))
  outcome upgrade.DiskFault next before after status says is told =
      inr (inr (inl (ap (λ (s : State). s.edition) (says.state (λ q. absurd (cc))) ∙ (says.cause refl).0, (says.cause refl).0, subst (λ (x : D). Rose (d.faults (disk_of old)) (d.faults x)) (sym is) (says.cause refl).1, told)))
  outcome upgrade.OutOfMemory next before after status says is told =
      inr (inr (inr (ap (λ (s : State). s.edition) (says.state (λ q. absurd (cc))), is ∙ (says.untouched (λ q. absurd (cc)) (λ q. absurd (cc))).0, told)))

  module _ (start : ℕ) (are_crashes : (x : D) → AreCrashes (d.crash x)) where
    -- the history behind what was given
    pub record Upgraded (file : List ℕ) (h : History) (given : List Gave) : Type 0 where
      pub carries : Carries d start file (history_after h given) (MayPend NonePends given) new
      pub run : LeavesOnly (d.crash (disk_of old)) (d.crash (disk_of new)) (IsFront NonePends given [] file h)

    -- nothing was given
    as_it_was : (u : Upgrade) (file : List ℕ) (h : History) → Says u → u ≢ upgrade.Done → u ≢ upgrade.DiskFault → Carries d start file h NonePends old → Upgraded file h []
    as_it_was u file h says done failed carries =
        let same = says.untouched done failed in
        let front = IsFront NonePends [] [] file h in
        record {
          carries = record {
            pending = carries.pending;
            holds = same.1 file h carries.pending carries.holds;
            now = λ c left. carries.now c (subst (λ (x : D). (d.crash x).may_leave c) same.0 left);
            reads = subst ReadsAsTheBoard (sym (says.state done)) carries.reads;
            since = omega (arith, carries.since, says.later);
            which = carries.which;
            cause = λ some. subst (λ (x : D). Rose start (d.faults x)) (sym same.0) (carries.cause some);
          };
          run = subst (λ (x : D). LeavesOnly (d.crash (disk_of old)) (d.crash x) front) (sym same.0)
              (nothing d.crash are_crashes (disk_of old) front
              (λ c left. at_start NonePends [] file h c (less file h NonePends (λ change. NonePends change ⊎ ⊥) (λ change was. inl was) c (carries.now c left))));
        }

    module _ (u : Upgrade) (file : List ℕ) (h : History) (says : Says u) (carries : Carries d start file h NonePends old) where
      -- a crash at any moment leaves the history, or it with the mark
      ran : LeavesOnly (d.crash (disk_of old)) (d.crash (disk_of new)) (Leaves file h OnlyMark)
      ran =
          let P : Change → Type 0 = λ change. (carries.pending ≡ Some change) ⊎ ((change ≡ Change.marked) × (h.edition ≡ One)) in
          weaker d.crash are_crashes (disk_of old) (disk_of new) (Leaves file h P) (Leaves file h OnlyMark)
          (less file h P OnlyMark (λ change is. ⊎_elim (λ was. inl (pending_may carries.pending NonePends carries.which change was)) (λ mark. inr mark.0) is))
          (says.any_moment file h carries.pending carries.holds)

    pub upgraded : (u : Upgrade) (file : List ℕ) (h : History) (next : D) (before after : Outflow) (status : ℕ) (says : Says u) (is : next ≡ disk_of new) (told : WritesUpgrade u before after status)
        → Carries d start file h NonePends old → Upgraded file h (mark_given d next old new before after status (outcome u next before after status says is told))
    unfolding outcome
    upgraded upgrade.Done file h next before after status says is told carries =
        let done = says.done refl in
        let held = (done.2 file h carries.pending carries.holds).0 in
        let given : List Gave = Gave.added Change.marked ∷ [] in
        subst (λ (gave : List Gave). Upgraded file h gave) (sym (ap marks_from done.0)) (record {
          carries = record {
            pending = None;
            holds = held;
            now = λ c left. inl (record { state = state_of new; history = held.history; image = held.journal.rests c left });
            reads = subst ReadsAsTheBoard (sym done.1) (in_two (state_of old) carries.reads);
            since = omega (arith, carries.since, says.later);
            which = tt;
            cause = λ some. absurd (cc);
          };
          run = weaker d.crash are_crashes (disk_of old) (disk_of new) (Leaves file h OnlyMark) (IsFront NonePends given [] file h)
              (λ c leaves. at_start NonePends given file h c leaves) (ran upgrade.Done file h says carries);
        })
    upgraded upgrade.Already file h next before after status says is told carries =
        subst (λ (gave : List Gave). Upgraded file h gave) (sym (ap marks_from (says.already.0 refl)))
        (as_it_was upgrade.Already file h says (λ q. absurd (cc)) (λ q. absurd (cc)) carries)
    upgraded upgrade.Full file h next before after status says is told carries = as_it_was upgrade.Full file h says (λ q. absurd (cc)) (λ q. absurd (cc)) carries
    upgraded upgrade.DiskFault file h next before after status says is told carries =
        let held = says.failed refl file h carries.pending carries.holds in
        let given : List Gave = Gave.faulted Change.marked ∷ [] in
        let P = Leaves file h OnlyMark in
        let run = ran upgrade.DiskFault file h says carries in
        record {
          carries = record {
            pending = held.0;
            holds = held.2;
            now = λ c left. ends d.crash are_crashes (disk_of old) (disk_of new) P run c left;
            reads = subst ReadsAsTheBoard (sym (says.state (λ q. absurd (cc)))) carries.reads;
            since = omega (arith, carries.since, says.later);
            which = touched NonePends Change.marked carries.pending held.0 carries.which held.1;
            cause = λ some. omega (arith, carries.since, (says.cause refl).1);
          };
          run = weaker d.crash are_crashes (disk_of old) (disk_of new) P (IsFront NonePends given [] file h) (λ c leaves. at_start NonePends given file h c leaves) run;
        }
    upgraded upgrade.OutOfMemory file h next before after status says is told carries = as_it_was upgrade.OutOfMemory file h says (λ q. absurd (cc)) (λ q. absurd (cc)) carries

    only_mark : (h : History) (file : List ℕ) (c : List ℕ) → Leaves file h (λ (change : Change). (None ≡ Some change) ⊎ ((change ≡ Change.marked) × (h.edition ≡ One))) c → Leaves file h (λ (change : Change). (change ≡ Change.marked) × (h.edition ≡ One)) c
    only_mark h file c (inl image) = inl image
    only_mark h file c (inr (change, inl never, image)) = absurd (cc)
    only_mark h file c (inr (change, inr is, image)) = inr (change, is, image)

    moments_of : (u : Upgrade) (file : List ℕ) (h : History) → Says u → Holds d.seen d.crash old file h None
        → LeavesOnly (d.crash (disk_of old)) (d.crash (disk_of new)) (Leaves file h (λ change. (change ≡ Change.marked) × (h.edition ≡ One)))
    moments_of u file h says holds =
        weaker d.crash are_crashes (disk_of old) (disk_of new) (Leaves file h (λ (change : Change). (None ≡ Some change) ⊎ ((change ≡ Change.marked) × (h.edition ≡ One)))) (Leaves file h (λ (change : Change). (change ≡ Change.marked) × (h.edition ≡ One)))
        (λ c leaves. only_mark h file c leaves) (says.any_moment file h None holds)

    mark_alone : (p : Option Change) → MayTouch None Change.marked p → IfSome p (λ (change : Change). change ≡ Change.marked)
    mark_alone None may = tt
    mark_alone (Some change) (inl never) = absurd (cc)
    mark_alone (Some change) (inr is) = is

    -- the history is held in the edition of the office
    in_its_edition : (file : List ℕ) (h : History) (p : Option Change) → Holds d.seen d.crash new file h p → Holds d.seen d.crash new file (record { entries = h.entries; edition = (state_of new).edition }) p
    in_its_edition file h p held =
        let is : h.edition ≡ (state_of new).edition = sym (ap (λ (s : State). s.edition) held.history.state) in
        subst (λ (e : Edition). Holds d.seen d.crash new file (record { entries = h.entries; edition = e }) p) is held

    unmoved : (u : Upgrade) (file : List ℕ) (h : History) → Says u → u ≢ upgrade.Done → u ≢ upgrade.DiskFault → Holds d.seen d.crash old file h None → IsMarked d old new file h
    unmoved u file h says done failed holds = record {
      pending = None;
      mark = tt;
      none = λ q. refl;
      holds = in_its_edition file h None ((says.untouched done failed).1 file h None holds);
      moments = moments_of u file h says holds;
    }

    pub marked : (u : Upgrade) (file : List ℕ) (h : History) → Says u → Holds d.seen d.crash old file h None → IsMarked d old new file h
    marked upgrade.Done file h says holds = record {
      pending = None;
      mark = tt;
      none = λ q. refl;
      holds = in_its_edition file (changed h Change.marked) None (((says.done refl).2 file h None holds).0);
      moments = moments_of upgrade.Done file h says holds;
    }
    marked upgrade.Already file h says holds = unmoved upgrade.Already file h says (λ q. absurd (cc)) (λ q. absurd (cc)) holds
    marked upgrade.Full file h says holds = unmoved upgrade.Full file h says (λ q. absurd (cc)) (λ q. absurd (cc)) holds
    marked upgrade.DiskFault file h says holds =
        let failed = says.failed refl file h None holds in
        let one : (state_of new).edition ≡ One = ap (λ (s : State). s.edition) (says.state (λ q. absurd (cc))) ∙ (says.cause refl).0 in
        record {
          pending = failed.0;
          mark = mark_alone failed.0 failed.1;
          none = λ q. absurd (let f = sym one ∙ q in cc);
          holds = in_its_edition file h failed.0 failed.2;
          moments = moments_of upgrade.DiskFault file h says holds;
        }
    marked upgrade.OutOfMemory file h says holds = unmoved upgrade.OutOfMemory file h says (λ q. absurd (cc)) (λ q. absurd (cc)) holds
