-- A disk in memory: what its calls have made of its file, and what a crash may leave.
use Rattle.std.specs.Prelude.{◌≡◌, ℕ, ◌+◌, ◌/◌, ◌%◌, ◌≤◌, ◌==◌, Bool, true, false, List, [], ◌∷◌, ◌++◌, length, take, drop, replicate, cond, leb, if◌then◌else◌}
use Rattle.desk_traits.specs.Crash.{Crashes}
use Rattle.desk_traits.specs.File.{Torn}
use Rattle.desk_traits.specs.declared.disk_record.DiskCall.{DiskCall}
use Rattle.desk_traits.specs.declared.disk_crash.Crashed.{Crashed}
use Rattle.desk_traits.specs.declared.disk_record.DiskCall.TheVariants.{Wrote, Synced, WriteFailed}

-- the file with the bytes at this place, if that is in it
abbrev pub written : ℕ → List ℕ → List ℕ → List ℕ
written at bytes file = cond (leb at (length file)) (take at file ++ (bytes ++ drop (at + length bytes) file)) file

-- what a read gives after a call
abbrev pub next : DiskCall → List ℕ → List ℕ
next (Wrote at bytes) file = written at bytes file
next _ file = file

-- what a read gives after the calls
abbrev pub replay : List ℕ → List DiskCall → List ℕ
replay file [] = file
replay file (call ∷ calls) = replay (next call file) calls

-- what a crash may leave after a call, if it might have left P before: a failed write counts as a write, a failed sync as nothing
abbrev pub after_call : DiskCall → List ℕ → (List ℕ → Type 0) → List ℕ → Type 0
after_call (Wrote at bytes) file P c = (d : List ℕ) × P d × Torn at (length bytes) d c
after_call (WriteFailed at bytes) file P c = (d : List ℕ) × P d × Torn at (length bytes) d c
after_call Synced file P c = c ≡ file
after_call _ file P c = P c

-- what a crash may leave after the calls
abbrev pub leaves : List ℕ → (List ℕ → Type 0) → List DiskCall → List ℕ → Type 0
leaves file P [] c = P c
leaves file P (call ∷ calls) c = leaves (next call file) (after_call call file P) calls c

-- the same, of a file that was stable at first
abbrev pub MayLeave : List ℕ → List DiskCall → List ℕ → Type 0
MayLeave first calls c = leaves first (λ d. d ≡ first) calls c

-- what a crash after some number of calls from t on might have left
pub record LeftSince (first : List ℕ) (calls : List DiskCall) (t : ℕ) (c : List ℕ) : Type 0 where
  pub k : ℕ
  pub from : t ≤ k
  pub upto : k ≤ length calls
  pub left : MayLeave first (take k calls) c

-- what crashes may leave after the calls, of which each is a moment
abbrev pub crashes_of : List ℕ → List DiskCall → Crashes
crashes_of first calls = record { moment = length calls; may_leave = MayLeave first calls; left_since = LeftSince first calls }

-- a write, failed or not
abbrev pub is_write : DiskCall → Bool
is_write (Wrote at bytes) = true
is_write (WriteFailed at bytes) = true
is_write _ = false

-- a good sync
abbrev pub is_synced : DiskCall → Bool
is_synced Synced = true
is_synced _ = false

-- the moments after the good syncs among the calls, of which the first comes after this moment
abbrev pub synced_at : ℕ → List DiskCall → List ℕ
synced_at before [] = []
synced_at before (call ∷ calls) = cond (is_synced call) ((before + 1) ∷ synced_at (before + 1) calls) (synced_at (before + 1) calls)

-- the file with what a digit chooses of a write: nothing (0), all (1), half (2), or as many bytes `G` (3)
abbrev pub torn_to : ℕ → ℕ → List ℕ → List ℕ → List ℕ
torn_to digit at bytes file =
    if digit == 0 then file else (if digit == 1 then written at bytes file else (if digit == 2 then written at (take (length bytes / 2) bytes) file else written at (replicate (length bytes) 71) file))

-- A call more: each write takes a digit of the pick, from the lowest on. A good sync makes all stable, and the digits begin again.
abbrev pub crash_after : ℕ → DiskCall → Crashed → Crashed
crash_after pick (Wrote at bytes) c = record { seen = written at bytes c.seen; left = torn_to (c.digits % 4) at bytes c.left; digits = c.digits / 4 }
crash_after pick (WriteFailed at bytes) c = record { seen = c.seen; left = torn_to (c.digits % 4) at bytes c.left; digits = c.digits / 4 }
crash_after pick Synced c = record { seen = c.seen; left = c.seen; digits = pick }
crash_after pick _ c = c

abbrev pub crash_by : ℕ → List DiskCall → Crashed → Crashed
crash_by pick [] c = c
crash_by pick (call ∷ calls) c = crash_by pick calls (crash_after pick call c)

-- what a crash after the calls leaves by the pick, of a file that was stable at first
abbrev pub picked : List ℕ → ℕ → List DiskCall → List ℕ
picked first pick calls = (crash_by pick calls (record { seen = first; left = first; digits = pick })).left
