-- The promise follows from what a run has done, on each disk that keeps the laws of disks.
use Rattle.std.proofs.Common.{ℕ, ◌≡◌, ◌⊎◌, inl, inr, List, [], Option, None, Some, IfSome, IsSome, ◌≢◌, refl, sym, ap, subst}
use Rattle.std.specs.Prelude.{MatchOption}
use Rattle.desk_traits.specs.Crash.{AreCrashes, LeavesOnly}
use Rattle.desk_traits.specs.Faults.{Rose}
use Rattle.desk_traits.specs.declared.clocks.Clock.{Ghosts as Clocks}
use Rattle.desk_traits.specs.declared.disk.Disk.{Ghosts as Disks}
use Rattle.desk_traits.proofs.Moments.{nothing, weaker}
use Rattle.office_core.specs.Agreement.{ReadsAsTheBoard}
use Rattle.office_core.specs.Histories.{StandOnce, entries_of}
use Rattle.office_core.specs.State.{State}
use Rattle.office_journal.specs.Changes.{Change, Leaves}
use Rattle.office_journal.specs.Given.{MayPend, history_after}
use Rattle.office_journal.specs.Grown.{KeepsHistory, NonePends}
use Rattle.office_journal.specs.Histories.{History, IsHistory}
use Rattle.office_journal.specs.Kept.{HasHistory, disk_of, state_of}
use Rattle.office_journal.specs.Making.{IsMakingOf}
use Rattle.office_journal.specs.declared.kept.KeptOffice.{KeptOffice}
use Rattle.office_turns.specs.Happenings as turns
use Rattle.desk_commands.specs.Opening.{IsOpened}
use Rattle.desk_program.specs.Commands.{Boards, Exports, IsNoCommand, IsUnopened, SameClock, SameDisk, Upgrades}
use Rattle.desk_program.specs.Runs.{Does}
use Rattle.desk_program.specs.Runs as alone
use Rattle.desk_program.specs.Words.{command_of}
use Rattle.desk_program.specs.declared.words.Command.{Command}
use Rattle.desk_program.specs.declared.words.Command.TheVariants as command
use Rattle.serve_command.specs.Words.{parse_serve_args}
use Rattle.serve_command.specs.declared.words.Serving.{Serving}
use Rattle.office_journal.proofs.Fronts.{entries_behind}
use Rattle.warn_main.specs.Offices.{Office, office_by, office_exported, office_if, office_in, office_served, office_shown, office_upgraded, unchanged}
use Rattle.warn_main.specs.Promise.{IsOneHistory, OutlastsCrashes, Promise}
use Rattle.warn_main.proofs.Lawful.{Carries, RequestsStandOnce, lines_go}
use Rattle.warn_main.specs.Runs.{DoesAsAsked, DoesServe, SamePort}
use Rattle.warn_main.specs.Worlds.{World, without_port}

-- one change more stands there only where the disk failed under it
rose : (may : Change → Type 0) (failed : Type 0) (pending : Option Change) (file : List ℕ) (last : History) (c : List ℕ) → IfSome pending may → (IsSome pending → failed) → Leaves file last (λ change. pending ≡ Some change) c
    → Leaves file last (λ change. may change × failed) c
rose may failed pending file last c which cause (inl image) = inl image
rose may failed None file last c which cause (inr (change, is, image)) = absurd (cc)
rose may failed (Some one) file last c which cause (inr (change, is, image)) = inr (change, (subst (λ (o : Option Change). IfSome o may) is which, cause refl), image)

one_history : {D : Type 0} {d : Disks D} (office : Office d) (file : List ℕ) (found : History) → IsHistory file (history_after found office.given) office.state
    → StandOnce (entries_of (history_after found office.given).entries) → ReadsAsTheBoard office.state → IsOneHistory office file found
one_history office file found legal once reads = record {
  accepted = entries_behind found office.given;
  legal = legal;
  once = once;
  decoded = reads.whole;
  parted = reads.apart;
  lives = reads.lives;
  numbers = reads.gapless;
  board = reads.rows;
}

module _ {D C : Type 0} (d : Disks D) (before after : World D C) where
  -- what crashes leave, by what is kept of a history
  phrases : (bytes file : List ℕ) (found : History) (office : Office d) → IsOpened d before.disk office.opened → d.seen before.disk ≡ Some bytes
      → KeepsHistory d before.disk (disk_of office.opened) after.disk bytes file found office.given office.answered office.state → OutlastsCrashes d before after office bytes
  phrases bytes file found office opened seen keeps = record {
    file = file;
    found = found;
    image = keeps.found;
    history = one_history office file found keeps.legal keeps.once keeps.reads;
    crash = keeps.crashes;
    settled = λ earlier tells.
        let sync = opened.settled bytes earlier seen tells in
        (sync.at, sync.past, λ c left. keeps.settled earlier sync c left);
    stays = keeps.stays;
    held = λ c left. rose (MayPend NonePends office.given) (Rose (d.faults before.disk) (d.faults after.disk)) keeps.pending file (history_after found office.given) c keeps.which keeps.cause (keeps.left c left);
  }

  abbrev Phrases : Office d → Type 0
  Phrases office = (bytes : List ℕ) → d.seen before.disk ≡ Some bytes → OutlastsCrashes d before after office bytes

  -- an office that a command opened
  module _ (k : Clocks C) (limit status : ℕ) where
    exported : (does : IsUnopened d (without_port before) (without_port after) status ⊎ Exports d (without_port before) (without_port after) status)
        → IfSome (office_exported d (without_port before) (without_port after) status does) Phrases
    exported (inl unopened) = tt
    exported (inr run) = λ bytes seen.
        let held = run.history bytes seen in
        phrases bytes held.0 held.1 (unchanged run.opened) run.first seen held.2

    upgraded : (does : IsUnopened d (without_port before) (without_port after) status ⊎ Upgrades d (without_port before) (without_port after) status)
        → IfSome (office_upgraded d (without_port before) (without_port after) status does) Phrases
    upgraded (inl unopened) = tt
    upgraded (inr run) = λ bytes seen.
        let held = run.history bytes seen in
        phrases bytes held.0 held.1 _ run.first seen held.2

    shown : (minute : Option ℕ) (does : (IsUnopened d (without_port before) (without_port after) status × SameClock (without_port before) (without_port after)) ⊎ Boards d (without_port before) (without_port after) k minute status)
        → IfSome (office_shown d (without_port before) (without_port after) status k minute does) Phrases
    shown minute (inl unopened) = tt
    shown minute (inr run) = λ bytes seen.
        let held = run.history bytes seen in
        phrases bytes held.0 held.1 (unchanged run.opened) run.first seen held.2

    kept_by : (command : Command) (does : Does d k limit (without_port before) (without_port after) status command)
        → IfSome (office_by d (without_port before) (without_port after) status k limit command does) Phrases
    kept_by command.Init does = tt
    kept_by command.Script (inl unopened) = tt
    kept_by command.Script (inr run) = λ bytes seen.
        let held = run.history bytes seen in
        phrases bytes held.0 held.1 _ run.first seen held.2
    kept_by command.Export does = exported does.2
    kept_by command.Upgrade does = upgraded does.2
    kept_by (command.Board minute) does = shown minute does.1
    kept_by (command.Dry dry) does = tt
    kept_by (command.Drill drill) does = tt

    kept_if : (asked : Option Command) (does : MatchOption asked (IsNoCommand (without_port before) (without_port after) status × SameDisk (without_port before) (without_port after) × SameClock (without_port before) (without_port after)) (Does d k limit (without_port before) (without_port after) status))
        → IfSome (office_if d (without_port before) (without_port after) status k limit asked does) Phrases
    kept_if None does = tt
    kept_if (Some command) does = kept_by command does

    module _ (words : List (List ℕ)) where
      kept_served : (serving : Serving) (does : DoesServe d k before after status serving)
          → IfSome (office_served d k before after status serving does) Phrases
      kept_served serving (unread, same, inl unopened) = tt
      kept_served serving (unread, same, inr run) = λ bytes seen.
          let held = run.history bytes seen in
          let happenings = run.served.happenings in
          let given = turns.given_by happenings in
          let answered = turns.stood_by [] happenings in
          phrases bytes held.0 held.1 (record { opened = run.opened; given = given; answered = answered; state = state_of run.closed }) run.first seen
          (subst (λ (x : D). KeepsHistory d before.disk (disk_of run.opened) x bytes held.0 held.1 given answered (state_of run.closed)) (sym run.handed) held.2)

      kept_in : (asked : Option Serving) (does : MatchOption asked (alone.DoesAsAsked d k words limit (without_port before) (without_port after) status × SamePort before after) (DoesServe d k before after status))
          → IfSome (office_in d k before after status words limit asked does) Phrases
      kept_in None does = kept_if (command_of words) does.0.run
      kept_in (Some serving) does = kept_served serving does

  -- the first phrases, whatever the disk tells
  module _ (stand_once : RequestsStandOnce) where
    abbrev Lawful : Office d → Type 0
    Lawful office = (file : List ℕ) × (found : History) × HasHistory office.opened file found × IsOneHistory office file found

    carried : (office : Office d) (kept : KeptOffice D d) (file : List ℕ) (h : History) → HasHistory office.opened file h → Carries d kept file (history_after h office.given) → office.state ≡ state_of kept → Lawful office
    carried office kept file h opened carries is =
        let last = history_after h office.given in
        let legal : IsHistory file last office.state = subst (λ (s : State). IsHistory file last s) (sym is) carries.0.history in (
          file,
          h,
          opened,
          one_history office file h legal (stand_once file last office.state legal) (subst ReadsAsTheBoard (sym is) carries.1),
        )

    -- as it was opened
    opened_lawful : (disk : D) (opened : KeptOffice D d) → IsOpened d disk opened → Lawful (unchanged opened)
    opened_lawful disk opened first = carried (unchanged opened) opened first.legal.0 first.legal.1 first.legal.2 (first.legal.2, first.reads) refl

    module _ (k : Clocks C) (limit status : ℕ) where
      lawful_exported : (does : IsUnopened d (without_port before) (without_port after) status ⊎ Exports d (without_port before) (without_port after) status)
          → IfSome (office_exported d (without_port before) (without_port after) status does) Lawful
      lawful_exported (inl unopened) = tt
      lawful_exported (inr run) = opened_lawful before.disk run.opened run.first

      lawful_shown : (minute : Option ℕ) (does : (IsUnopened d (without_port before) (without_port after) status × SameClock (without_port before) (without_port after)) ⊎ Boards d (without_port before) (without_port after) k minute status)
          → IfSome (office_shown d (without_port before) (without_port after) status k minute does) Lawful
      lawful_shown minute (inl unopened) = tt
      lawful_shown minute (inr run) = opened_lawful before.disk run.opened run.first

      lawful_by : (asked : Command) → asked ≢ command.Upgrade → (does : Does d k limit (without_port before) (without_port after) status asked)
          → IfSome (office_by d (without_port before) (without_port after) status k limit asked does) Lawful
      lawful_by command.Init other does = tt
      lawful_by command.Script other (inl unopened) = tt
      lawful_by command.Script other (inr run) =
          let first = run.first in
          carried _ run.after.kept first.legal.0 first.legal.1 first.legal.2
          (lines_go d k (record { kept = run.opened; clock = before.clock }) run.run.run.lines run.said run.after first.legal.0 first.legal.1 run.goes (first.legal.2, first.reads)) refl
      lawful_by command.Export other does = lawful_exported does.2
      lawful_by command.Upgrade other does = absurd (other refl)
      lawful_by (command.Board minute) other does = lawful_shown minute does.1
      lawful_by (command.Dry dry) other does = tt
      lawful_by (command.Drill drill) other does = tt

      lawful_if : (asked : Option Command) → asked ≢ Some command.Upgrade → (does : MatchOption asked (IsNoCommand (without_port before) (without_port after) status × SameDisk (without_port before) (without_port after) × SameClock (without_port before) (without_port after)) (Does d k limit (without_port before) (without_port after) status))
          → IfSome (office_if d (without_port before) (without_port after) status k limit asked does) Lawful
      lawful_if None other does = tt
      lawful_if (Some one) other does = lawful_by one (λ is. other (ap (λ (c : Command). Some c) is)) does

      module _ (words : List (List ℕ)) (other : command_of words ≢ Some command.Upgrade) where
        lawful_served : (serving : Serving) (does : DoesServe d k before after status serving)
            → IfSome (office_served d k before after status serving does) Lawful
        lawful_served serving (unread, same, inl unopened) = tt
        lawful_served serving (unread, same, inr run) =
            let first = run.first in
            let since = run.served.since in
            carried _ run.closed first.legal.0 first.legal.1 first.legal.2
            (since.legal first.legal.0 first.legal.1 first.legal.2, since.reads first.reads) refl

        lawful_in : (asked : Option Serving) (does : MatchOption asked (alone.DoesAsAsked d k words limit (without_port before) (without_port after) status × SamePort before after) (DoesServe d k before after status))
            → IfSome (office_in d k before after status words limit asked does) Lawful
        lawful_in None does = lawful_if (command_of words) other does.0.run
        lawful_in (Some serving) does = lawful_served serving does

  -- a run that opened no office
  module _ (are_crashes : (x : D) → AreCrashes (d.crash x))
      (k : Clocks C) (words : List (List ℕ)) (limit status : ℕ) where
    abbrev May : List ℕ → Type 0
    May c = (d.crash before.disk).may_leave c ⊎ ((command_of words ≡ Some command.Init) × (settings : List ℕ) × IsMakingOf settings c)

    abbrev Untouched : Type 0
    Untouched = (bytes : List ℕ) → d.seen before.disk ≡ Some bytes → LeavesOnly (d.crash before.disk) (d.crash after.disk) May

    same_disk : after.disk ≡ before.disk → Untouched
    same_disk same = λ bytes seen.
        subst (λ (x : D). LeavesOnly (d.crash before.disk) (d.crash x) May) (sym same)
        (nothing d.crash are_crashes before.disk May (λ c left. inl left))

    not_opened : IsUnopened d (without_port before) (without_port after) status → Untouched
    not_opened run = λ bytes seen.
        weaker d.crash are_crashes before.disk after.disk (d.crash before.disk).may_leave May (λ c left. inl left) run.unopened.moments

    not_exported : (does : IsUnopened d (without_port before) (without_port after) status ⊎ Exports d (without_port before) (without_port after) status)
        → office_exported d (without_port before) (without_port after) status does ≡ None → Untouched
    not_exported (inl unopened) none = not_opened unopened
    not_exported (inr run) none = absurd (cc)

    not_upgraded : (does : IsUnopened d (without_port before) (without_port after) status ⊎ Upgrades d (without_port before) (without_port after) status)
        → office_upgraded d (without_port before) (without_port after) status does ≡ None → Untouched
    not_upgraded (inl unopened) none = not_opened unopened
    not_upgraded (inr run) none = absurd (cc)

    not_shown : (minute : Option ℕ) (does : (IsUnopened d (without_port before) (without_port after) status × SameClock (without_port before) (without_port after)) ⊎ Boards d (without_port before) (without_port after) k minute status)
        → office_shown d (without_port before) (without_port after) status k minute does ≡ None → Untouched
    not_shown minute (inl unopened) none = not_opened unopened.0
    not_shown minute (inr run) none = absurd (cc)

    untouched_by : (command : Command) → command_of words ≡ Some command → (does : Does d k limit (without_port before) (without_port after) status command)
        → office_by d (without_port before) (without_port after) status k limit command does ≡ None → Untouched
    untouched_by command.Init is does none = λ bytes seen.
        let run = does.0 in
        weaker d.crash are_crashes before.disk after.disk (λ (c : List ℕ). (d.crash before.disk).may_leave c ⊎ IsMakingOf run.read c) May
        (λ c left. elim left [
          | inl was ↦ inl was
          | inr making ↦ inr (is, run.read, making)
        ]) (run.crashes bytes seen)
    untouched_by command.Script is (inl unopened) none = not_opened unopened.1
    untouched_by command.Script is (inr run) none = absurd (cc)
    untouched_by command.Export is does none = not_exported does.2 none
    untouched_by command.Upgrade is does none = not_upgraded does.2 none
    untouched_by (command.Board minute) is does none = not_shown minute does.1 none
    untouched_by (command.Dry dry) is does none = same_disk does.1
    untouched_by (command.Drill drill) is does none = same_disk does.2

    untouched_if : (asked : Option Command) → command_of words ≡ asked → (does : MatchOption asked (IsNoCommand (without_port before) (without_port after) status × SameDisk (without_port before) (without_port after) × SameClock (without_port before) (without_port after)) (Does d k limit (without_port before) (without_port after) status))
        → office_if d (without_port before) (without_port after) status k limit asked does ≡ None → Untouched
    untouched_if None is does none = same_disk does.1
    untouched_if (Some command) is does none = untouched_by command is does none

    untouched_served : (serving : Serving) (does : DoesServe d k before after status serving)
        → office_served d k before after status serving does ≡ None → Untouched
    untouched_served serving (unread, same, inl unopened) none = not_opened unopened.0
    untouched_served serving (unread, same, inr run) none = absurd (cc)

    untouched_in : (asked : Option Serving) (does : MatchOption asked (alone.DoesAsAsked d k words limit (without_port before) (without_port after) status × SamePort before after) (DoesServe d k before after status))
        → office_in d k before after status words limit asked does ≡ None → Untouched
    untouched_in None does none = untouched_if (command_of words) refl does.0.run none
    untouched_in (Some serving) does none = untouched_served serving does none

    pub promised : RequestsStandOnce → DoesAsAsked d k words limit before after status → Promise d k words limit before after status
    promised stand_once done = record {
      done = done;
      lawful = λ other. lawful_in stand_once k limit status words other (parse_serve_args words) done.run;
      kept = kept_in k limit status words (parse_serve_args words) done.run;
      unopened = λ none. untouched_in (parse_serve_args words) done.run none;
    }
