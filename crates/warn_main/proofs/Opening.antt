-- A run over the journal at the place that the first word names.
use Rattle.std.proofs.Common.{◌≡◌, inr, ℕ, List, Ok, refl, sym, subst}
use Rattle.std.specs.Prelude.{Vec, String}
use Rattle.std.specs.declared.alloc.Global.{Global}
use Rattle.desk_traits.specs.declared.clocks.Clock.{Ghosts as Clocks}
use Rattle.desk_traits.specs.declared.disk.Disk.{Ghosts as Disks}
use Rattle.desk_traits.specs.declared.disk_real.FileDisk.{FileDisk}
use Rattle.desk_traits.specs.declared.sure_disk.SureDisk.{SureDisk}
use Rattle.program_ends.specs.Words.{words_after}
use Rattle.program_outside.specs.Starts.{Words}
use Rattle.program_outside.specs.declared.files.Access.{Access}
use Rattle.warn_main.specs.Programs.{Around, IsNamed, KeepsOver, RunsOver}
use Rattle.warn_main.specs.declared.place.Place.{Place}
use Rattle.warn_main.specs.declared.place.Place.TheVariants.{Memory}

module _ {F G C : Type 0} (opens : F → List ℕ → Access → G → F → Type 0)
    (g : Disks G) (file : Disks FileDisk) (sure : Disks SureDisk) (k : Clocks C) where
  -- a run over a disk in memory, where the first word says so
  pub in_memory : (words : Words) (read : Vec (String Global) Global)
      (line behind : List (String Global)) (place : Place) (given : List (List ℕ))
      (disk : SureDisk) (files : F) (before after : Around C) (status : ℕ)
      → words ≡ Ok read → line ≡ read.items → behind ≡ read.items
      → place ≡ Memory → IsNamed line place
      → given ≡ words_after 2 behind → KeepsOver sure k given disk before after status
      → RunsOver opens g file sure k words files files before after status
  in_memory words read line behind place given disk files before after status
      is whole rest kept named same run =
      let at : IsNamed line Memory = subst (λ (p : Place). IsNamed line p) kept named in
      let first : IsNamed read.items Memory =
      subst (λ (l : List (String Global)). IsNamed l Memory) whole at in
      let words_are : given ≡ words_after 2 read.items =
      subst (λ (l : List (String Global)). given ≡ words_after 2 l) rest same in
      let done : KeepsOver sure k (words_after 2 read.items) disk before after status =
      subst (λ (w : List (List ℕ)). KeepsOver sure k w disk before after status) words_are run in
      subst (λ (w : Words). RunsOver opens g file sure k w files files before after status)
      (sym is) (inr (Memory, first, (refl, disk, done)))
