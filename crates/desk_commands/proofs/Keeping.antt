-- What a run over a kept office leaves of its history.
use Rattle.std.proofs.Common.{ℕ, ◌≡◌, ◌⊎◌, inl, inr, All, Bool, List, [], Option, None, Some, sym, subst}
use Rattle.desk_settings.specs.declared.settings.Settings.{Settings}
use Rattle.desk_traits.specs.Crash.{AreCrashes, LeavesOnly}
use Rattle.desk_traits.specs.declared.disk.Disk.{Ghosts as Disks}
use Rattle.desk_traits.proofs.Moments.{both, weaker}
use Rattle.hazard_types.specs.declared.codes.Class.{Class}
use Rattle.hazard_types.specs.declared.codes.Class.TheVariants.{O}
use Rattle.office_core.specs.Histories.{Entered, IsLegal, StandOnce, entries_of}
use Rattle.office_core.specs.State.{State}
use Rattle.office_journal.specs.Changes.{Change, Leaves}
use Rattle.office_journal.specs.Given.{Gave, IsFront, MayPend, history_after}
use Rattle.office_journal.specs.Grown.{KeepsHistory, NonePends, StaysSince, Stood}
use Rattle.office_journal.specs.Histories.{History, ImageOf, fits}
use Rattle.office_journal.specs.Kept.{Holds, disk_of, state_of}
use Rattle.office_journal.specs.declared.kept.KeptOffice.{KeptOffice}
use Rattle.office_journal.proofs.Fronts.{at_start, follows_given}
use Rattle.desk_commands.specs.Opening.{IsOpened}
use Rattle.desk_commands.proofs.Scripting.{Carries, less}

-- the office's law that requests stand once
abbrev pub RequestsStandOnce : Type 0
RequestsStandOnce = (may : List Entered → Entered → Bool) (settings : Settings) (class : Class) (history : List Entered) (s : State) → IsLegal may settings class history s → StandOnce (entries_of history)

module _ {D : Type 0} (d : Disks D)
    (seen_is_left : (x : D) (file : List ℕ) → d.seen x ≡ Some file → (d.crash x).may_leave file)
    (are_crashes : (x : D) → AreCrashes (d.crash x)) where
  -- a crash now leaves the history that a kept office holds, or that with the pending change
  abbrev pub CrashLaw : KeptOffice D d → Type 0
  CrashLaw kept = (file : List ℕ) (h : History) (pending : Option Change) (c : List ℕ) → Holds d.seen d.crash kept file h pending → (d.crash (disk_of kept)).may_leave c → Leaves file h (λ change. pending ≡ Some change) c

  -- as the office was opened
  pub opened_carries : (file : List ℕ) (h : History) (may : Change → Type 0) (disk : D) (kept : KeptOffice D d) → CrashLaw kept → IsOpened d disk kept → Holds d.seen d.crash kept file h None → Carries d (d.faults disk) file h may kept
  opened_carries file h may disk kept law opened holds = record {
    pending = None;
    holds = holds;
    now = λ c left. less file h (λ (change : Change). None ≡ Some change) may (λ change never. absurd (cc)) c (law file h None c holds left);
    reads = opened.reads;
    since = opened.later;
    which = tt;
    cause = λ some. absurd (cc);
  }

  pub keeps : RequestsStandOnce → (bytes file : List ℕ) (h : History) (given : List Gave) (answered : List (Stood D)) (disk : D) (opened kept : KeptOffice D d) → CrashLaw kept → IsOpened d disk opened → ImageOf bytes file h
      → Carries d (d.faults disk) file (history_after h given) (MayPend NonePends given) kept → LeavesOnly (d.crash (disk_of opened)) (d.crash (disk_of kept)) (IsFront NonePends given [] file h)
      → All (λ stood. StaysSince d stood (disk_of kept) NonePends given file h) answered → KeepsHistory d disk (disk_of opened) (disk_of kept) bytes file h given answered (state_of kept)
  keeps stand_once bytes file h given answered disk opened kept law first found carries run stay =
      let last = history_after h given in
      let front = IsFront NonePends given [] file h in
      record {
        found = found;
        legal = carries.holds.history;
        follows = follows_given h given;
        once = stand_once (fits file) carries.holds.history.settings O last.entries carries.holds.history.last carries.holds.history.legal;
        reads = carries.reads;
        pending = carries.pending;
        which = carries.which;
        cause = carries.cause;
        now = carries.holds.journal.file;
        told = carries.holds.journal.told;
        image = law file last carries.pending carries.holds.journal.file carries.holds (seen_is_left (disk_of kept) carries.holds.journal.file carries.holds.journal.told);
        left = λ c left. law file last carries.pending c carries.holds left;
        crashes = both d.crash are_crashes disk (disk_of opened) (disk_of kept) (d.crash disk).may_leave (λ (c : List ℕ). (d.crash disk).may_leave c ⊎ front c) first.moments
            (weaker d.crash are_crashes (disk_of opened) (disk_of kept) front (λ (c : List ℕ). (d.crash disk).may_leave c ⊎ front c) (λ c is. inr is) run)
            (λ c left. inl left);
        settled = λ before sync c left. elim (run.joins sync.at c sync.past left) [
          | inl was ↦ at_start NonePends given file h c (inl (subst (λ (b : List ℕ). ImageOf b file h) (sym (sync.only c was)) found))
          | inr now ↦ run.each c now
        ];
        stays = stay;
      }
