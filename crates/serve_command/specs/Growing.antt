-- How the history of an office that was opened grows by what happens to it.
use Rattle.std.specs.Prelude.{◌≡◌, ℕ, List, [], Some, length}
use Rattle.desk_traits.specs.declared.disk.Disk.{Ghosts as Disks}
use Rattle.office_journal.specs.Given.{history_after}
use Rattle.office_journal.specs.Grown.{KeepsHistory}
use Rattle.office_journal.specs.Histories.{History}
use Rattle.office_journal.specs.Kept.{disk_of, entries_of, state_of}
use Rattle.office_journal.specs.declared.kept.KeptOffice.{KeptOffice}
use Rattle.office_turns.specs.Happenings.{given_by, stood_by}
use Rattle.office_turns.specs.declared.happening.Happening.{Happening}

-- The history that a disk held when the office was opened has the entries that were added since behind it, and each stays once its request was answered. At most one entry more is in the file, under which the disk failed since an entry was last added.
abbrev pub HasGrown : {D : Type 0} (d : Disks D) → D → KeptOffice D d → KeptOffice D d → List (Happening D d) → Type 0
HasGrown d disk opened kept happenings =
    (bytes : List ℕ) → d.seen disk ≡ Some bytes → (file : List ℕ) × (h : History)
    × KeepsHistory d disk (disk_of opened) (disk_of kept) bytes file h (given_by happenings) (stood_by [] happenings) (state_of kept)
    × (entries_of kept ≡ length (history_after h (given_by happenings)).entries)
