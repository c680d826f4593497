-- Which calls of a disk in memory fail, and what it keeps of them.
use Rattle.std.specs.Prelude.{◌≡◌, ◌⊎◌, ◌↔◌, ℕ, ◌<◌, Bool, true, false, List, [], ◌∷◌, ◌++◌, Option, None, Some, Contains, Result, is_ok, if◌then◌else◌}
use Rattle.desk_traits.specs.Faults.{next_count}
use Rattle.desk_traits.specs.declared.disk_record.MemDisk.{MemDisk}
use Rattle.desk_traits.specs.declared.disk_record.DiskCall.{DiskCall}

-- what a disk was told: its file at first, the numbers of the calls that fail, the last call that may be answered, and the pick; beside it how many calls were made
pub record Told : Type 0 where
  pub first : List ℕ
  pub failing : List ℕ
  pub stop : Option ℕ
  pub pick : ℕ
  pub made : ℕ

abbrev pub told_of : MemDisk → Told
told_of disk = record { first = disk.first; failing = disk.failing; stop = disk.stop; pick = disk.pick; made = disk.count }

-- the calls, in order, with what came of them
abbrev pub calls_of : MemDisk → List DiskCall
calls_of disk = disk.calls.items

-- whether memory has lacked for a call
abbrev pub has_lacked : MemDisk → Bool
has_lacked disk = disk.lacked

abbrev pub IsPast : Option ℕ → ℕ → Type 0
IsPast None number = ⊥
IsPast (Some last) number = last < number

-- the next call is to fail
abbrev pub IsToFail : Told → Type 0
IsToFail told = Contains told.failing (next_count told.made) ⊎ IsPast told.stop (next_count told.made)

-- a call that failed exactly where it was told to, and is noted
pub record IsNoted (told : Type 0) (old new : List DiskCall) (good failed : DiskCall) (lacked lacked' is_good : Bool) : Type 0 where
  pub fails : (is_good ≡ false) ↔ told
  pub noted : new ≡ old ++ (if is_good then good else failed) ∷ []
  pub had_memory : lacked' ≡ lacked

-- a call for which memory lacked: it failed, and nothing was done or noted
pub record IsLacking (old new : List DiskCall) (lacked' is_good : Bool) : Type 0 where
  pub fails : is_good ≡ false
  pub unnoted : new ≡ old
  pub no_memory : lacked' ≡ true

abbrev pub Comes : Type 0 → List DiskCall → List DiskCall → DiskCall → DiskCall → Bool → Bool → Bool → Type 0
Comes told old new good failed lacked lacked' is_good = IsNoted told old new good failed lacked lacked' is_good ⊎ IsLacking old new lacked' is_good

-- one call more, and what came of it
pub record Counts {T E : Type 0} (old new : MemDisk) (good failed : DiskCall) (result : Result T E) : Type 0 where
  pub one_more : told_of new ≡ record { first = old.first; failing = old.failing; stop = old.stop; pick = old.pick; made = next_count old.count }
  pub comes : Comes (IsToFail (told_of old)) (calls_of old) (calls_of new) good failed (has_lacked old) (has_lacked new) (is_ok result)
