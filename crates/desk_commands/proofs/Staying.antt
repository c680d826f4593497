-- A run that adds nothing keeps the history that was found.
use Rattle.std.proofs.Common.{ℕ, ◌≡◌, ◌⊎◌, inl, List, [], Some}
use Rattle.std.proofs.lemmas.List.Elements.{All-nil}
use Rattle.desk_traits.specs.Crash.{AreCrashes}
use Rattle.desk_traits.specs.declared.disk.Disk.{Ghosts as Disks}
use Rattle.desk_traits.proofs.Moments.{nothing}
use Rattle.office_journal.specs.Given.{IsFront}
use Rattle.office_journal.specs.Grown.{NonePends, StaysSince}
use Rattle.office_journal.specs.Kept.{disk_of}
use Rattle.office_journal.specs.declared.kept.KeptOffice.{KeptOffice}
use Rattle.office_journal.proofs.Fronts.{at_start}
use Rattle.desk_commands.specs.Commands.{Stays}
use Rattle.desk_commands.specs.Opening.{IsOpened}
use Rattle.desk_commands.proofs.Keeping.{CrashLaw, RequestsStandOnce, keeps, opened_carries}
use Rattle.desk_commands.proofs.Scripting.{less}

module _ {D : Type 0} (d : Disks D)
    (seen_is_left : (x : D) (file : List ℕ) → d.seen x ≡ Some file → (d.crash x).may_leave file)
    (are_crashes : (x : D) → AreCrashes (d.crash x)) where
  pub unchanged : RequestsStandOnce → (disk : D) (kept : KeptOffice D d) → CrashLaw d seen_is_left are_crashes kept → IsOpened d disk kept → Stays d disk (disk_of kept) kept
  unchanged stand_once disk kept law opened = λ bytes seen.
      let found = opened.found bytes seen in
      let file = found.0 in
      let h = found.1 in
      let carries = opened_carries d seen_is_left are_crashes file h NonePends disk kept law opened found.3 in (
        file,
        h,
        keeps d seen_is_left are_crashes stand_once bytes file h [] [] disk kept kept law opened found.2
            carries
            (nothing d.crash are_crashes (disk_of kept) (IsFront NonePends [] [] file h)
            (λ c left. at_start NonePends [] file h c (less file h NonePends (λ change. NonePends change ⊎ ⊥) (λ change was. inl was) c (carries.now c left))))
            (All-nil (λ stood. StaysSince d stood (disk_of kept) NonePends [] file h)),
      )
