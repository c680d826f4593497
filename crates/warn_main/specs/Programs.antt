-- What the whole program does: which journal it opens, and what it does over it.
use Rattle.std.specs.Prelude.{◌≡◌, ◌⊎◌, ℕ, List, IsOkAnd, String, option_map, slice_get, string_bytes}
use Rattle.std.specs.declared.alloc.Global.{Global}
use Rattle.byte_streams.specs.Flows.{Inflow, Outflow}
use Rattle.desk_links.specs.Links.{PortState}
use Rattle.desk_traits.specs.declared.clocks.Clock.{Ghosts as Clocks}
use Rattle.desk_traits.specs.declared.disk.Disk.{Ghosts as Disks}
use Rattle.desk_traits.specs.declared.disk_real.FileDisk.{FileDisk}
use Rattle.desk_traits.specs.declared.sure_disk.SureDisk.{SureDisk}
use Rattle.program_ends.specs.Lines.{most_bytes}
use Rattle.program_ends.specs.Words.{words_after}
use Rattle.program_outside.specs.Starts.{Words}
use Rattle.program_outside.specs.declared.files.Access.{Access}
use Rattle.warn_main.specs.Access.{access_of}
use Rattle.warn_main.specs.Places.{IsPlace}
use Rattle.warn_main.specs.Promise.{Promise}
use Rattle.warn_main.specs.Worlds.{World, world}
use Rattle.warn_main.specs.declared.place.Place.{Place}
use Rattle.warn_main.specs.declared.place.Place.TheVariants.{Unnamed, Memory, File}

-- the outside of a run at one moment, but for its disk
pub record Around (C : Type 0) : Type 0 where
  pub input : Inflow
  pub output : Outflow
  pub clock : C
  pub port : PortState

-- the same, by its parts
abbrev pub around : {C : Type 0} → Inflow → Outflow → C → PortState → Around C
around input output clock port =
    record { input = input; output = output; clock = clock; port = port }

-- the same with a disk
abbrev pub over : {D C : Type 0} → Around C → D → World D C
over a disk = world a.input a.output disk a.clock a.port

-- A run over a disk, which it closes: what the words ask for was done, and the promise is kept.
abbrev pub KeepsOver : {D C : Type 0} → Disks D → Clocks C → List (List ℕ) → D → Around C → Around C → ℕ → Type 0
KeepsOver {D} d k words disk before after status =
    (next : D) × Promise d k words most_bytes (over before disk) (over after next) status

-- where a command line says that the journal is kept
abbrev pub IsNamed : List (String Global) → Place → Type 0
IsNamed words place = IsPlace (option_map string_bytes (slice_get words 1)) place

module _ {F G C : Type 0} (opens : F → List ℕ → Access → G → F → Type 0)
    (g : Disks G) (file : Disks FileDisk) (sure : Disks SureDisk) (k : Clocks C) where
  -- A run over the journal at that place: the file of exactly that path is opened, and no other one.
  abbrev pub RunsAt : Place → List (List ℕ) → F → F → Around C → Around C → ℕ → Type 0
  RunsAt Unnamed words first last before after status =
      (last ≡ first) × (disk : FileDisk) × KeepsOver file k words disk before after status
  RunsAt Memory words first last before after status =
      (last ≡ first) × (disk : SureDisk) × KeepsOver sure k words disk before after status
  RunsAt (File path) words first last before after status =
      (disk : G) × opens first path.now (access_of words) disk last
      × KeepsOver g k words disk before after status

  -- The whole program: memory lacked for the words or for a disk in memory, and nothing was touched;
  -- or it runs over the journal that the first word names, with the words behind it.
  abbrev pub RunsOver : Words → F → F → Around C → Around C → ℕ → Type 0
  RunsOver words first last before after status =
      ((status ≡ 12) × (last ≡ first) × (after ≡ before))
      ⊎ IsOkAnd words (λ read. (place : Place) × IsNamed read.items place
      × RunsAt place (words_after 2 read.items) first last before after status)
