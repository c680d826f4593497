-- An office that was opened, and has become another by what happened, keeps the history of its disk.
use Rattle.std.proofs.Common.{ℕ, ◌≡◌, ◌≤◌, ◌+◌, ◌-◌, ◌^◌, min, List, [], Option, None, Some, IfSome, IsSome, subst, arith}
use Rattle.std.proofs.lemmas.List.Elements.{All-weaker}
use Rattle.desk_traits.specs.Crash.{AreCrashes}
use Rattle.desk_traits.specs.declared.disk.Disk.{Ghosts as Disks}
use Rattle.desk_traits.specs.Faults.{Rose}
use Rattle.desk_traits.proofs.Moments.{weaker}
use Rattle.office_journal.specs.Changes.{Change}
use Rattle.office_journal.specs.Given.{Gave, IsFront, MayPend, history_after}
use Rattle.office_journal.specs.Grown.{NonePends, StaysSince, Stood}
use Rattle.office_journal.specs.Histories.{History}
use Rattle.office_journal.specs.Kept.{disk_of}
use Rattle.office_journal.specs.declared.kept.KeptOffice.{KeptOffice}
use Rattle.office_journal.proofs.Fronts.{front_weaker, pends_weaker}
use Rattle.office_turns.specs.Happenings.{faults_in, given_by, stood_by}
use Rattle.office_turns.specs.Since.{IsHeld, IsSince}
use Rattle.office_turns.specs.declared.happening.Happening.{Happening}
use Rattle.office_turns.proofs.Joining.{Was, said_of, some_less}
use Rattle.office_turns.proofs.Listing.{rose_since}
use Rattle.desk_commands.specs.Opening.{IsOpened}
use Rattle.desk_commands.proofs.Keeping.{CrashLaw, RequestsStandOnce, keeps}
use Rattle.desk_commands.proofs.Scripting.{Carries, less}
use Rattle.serve_command.specs.Growing.{HasGrown}

-- nothing was pending
never : (change : Change) → Was None change → NonePends change
never change is = absurd (cc)

-- a change that pends was given to a disk that has failed since
rose : {D : Type 0} {d : Disks D} → (pending : Option Change) (happenings : List (Happening D d)) (before now : ℕ) → IfSome pending (MayPend NonePends (given_by happenings)) → min (before + faults_in happenings) (2 ^ 64 - 1) ≤ now → IsSome pending → Rose before now
rose None happenings before now which counted some = absurd (cc)
rose (Some change) happenings before now which counted some = rose_since before now happenings change which counted

-- a front where nothing was pending
front_of_none : (given held : List Gave) (file : List ℕ) (h : History) (c : List ℕ) → IsFront (Was None) given held file h c → IsFront NonePends given held file h c
front_of_none given held file h c front = front_weaker (Was None) NonePends given held file h c never front

module _ {D : Type 0} (d : Disks D)
    (seen_is_left : (x : D) (file : List ℕ) → d.seen x ≡ Some file → (d.crash x).may_leave file)
    (are_crashes : (x : D) → AreCrashes (d.crash x)) where
  stays_of_none : (next : D) (given : List Gave) (file : List ℕ) (h : History) (stood : Stood D) → StaysSince d stood next (Was None) given file h → StaysSince d stood next NonePends given file h
  stays_of_none next given file h stood stays = record {
    more = stays.more;
    are = stays.are;
    later = stays.later;
    leaves = λ c left. front_of_none given stood.held file h c (stays.leaves c left);
  }

  module _ (kept : KeptOffice D d) (law : CrashLaw d seen_is_left are_crashes kept) (opened : KeptOffice D d) (happenings : List (Happening D d)) (file : List ℕ) (h : History) (held : IsHeld d opened kept file h happenings None) where
    which_pends : IfSome held.pending (MayPend NonePends (given_by happenings))
    which_pends =
        let given = given_by happenings in
        some_less (MayPend (Was None) given) (MayPend NonePends given) (pends_weaker (Was None) NonePends given never) held.pending held.which

    carried : (disk : D) → IsOpened d disk opened → IsSince d opened kept happenings → Carries d (d.faults disk) file (history_after h (given_by happenings)) (MayPend NonePends (given_by happenings)) kept
    carried disk first since =
        let may = MayPend NonePends (given_by happenings) in
        let last = history_after h (given_by happenings) in
        let counted = subst (λ (n : ℕ). min (n + faults_in happenings) (2 ^ 64 - 1) ≤ d.faults (disk_of kept)) first.steady since.counted in
        record {
          pending = held.pending;
          holds = held.holds;
          now = λ c left. less file last (Was held.pending) may (said_of may held.pending which_pends) c (law file last held.pending c held.holds left);
          reads = since.reads first.reads;
          since = (let a = first.later in let b = since.later in omega arith);
          which = which_pends;
          cause = rose held.pending happenings (d.faults disk) (d.faults (disk_of kept)) which_pends counted;
        }

  pub has_grown : RequestsStandOnce → (kept : KeptOffice D d) → CrashLaw d seen_is_left are_crashes kept → (disk : D) (opened : KeptOffice D d) (happenings : List (Happening D d))
      → IsOpened d disk opened → IsSince d opened kept happenings → HasGrown d disk opened kept happenings
  has_grown stand_once kept law disk opened happenings first since = λ bytes seen.
      let found = first.found bytes seen in
      let file = found.0 in
      let h = found.1 in
      let held = since.held file h None found.3 in
      let given = given_by happenings in
      let run = weaker d.crash are_crashes (disk_of opened) (disk_of kept) (IsFront (Was None) given [] file h) (IsFront NonePends given [] file h) (λ c front. front_of_none given [] file h c front) held.crashes in
      let stay = All-weaker (λ stood. StaysSince d stood (disk_of kept) (Was None) given file h) (λ stood. StaysSince d stood (disk_of kept) NonePends given file h) (stays_of_none (disk_of kept) given file h) (stood_by [] happenings) held.stays in (
        file,
        h,
        keeps d seen_is_left are_crashes stand_once bytes file h given (stood_by [] happenings) disk opened kept law first found.2 (carried kept law opened happenings file h held disk first since) run stay,
        held.holds.entries,
      )
