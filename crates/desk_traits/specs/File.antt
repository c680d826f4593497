-- What the calls of a disk do to the file that a read gives, where the disk tells it.
use Rattle.std.specs.Prelude.{◌≡◌, ℕ, ◌+◌, ◌≤◌, max, List, [], ◌∷◌, ◌++◌, length, take, drop, Option, None, Some, option_map, Result, Ok, Err, OnOk}

-- new is old with these bytes at this place
abbrev pub HasBytes : ℕ → List ℕ → List ℕ → List ℕ → Type 0
HasBytes at bytes old new = new ≡ take at old ++ (bytes ++ drop (at + length bytes) old)

-- any bytes in the range, and where the file grew any length between and any bytes there; all other bytes stay
pub record Torn (at n : ℕ) (old new : List ℕ) : Type 0 where
  pub before : take at new ≡ take at old
  pub after : drop (at + n) new ≡ drop (at + n) old
  pub no_shorter : length old ≤ length new
  pub no_longer : length new ≤ max (length old) (at + n)

-- the same file
abbrev pub Same : List ℕ → List ℕ → Type 0
Same old new = new ≡ old

-- a place in the file or at its end, where the file is told
abbrev pub IsWithin : ℕ → Option (List ℕ) → Type 0
IsWithin at None = Unit {0}
IsWithin at (Some file) = at ≤ length file

-- a good write has put the bytes there; a failed one counts as a write of its range
abbrev pub WritesAt : {E : Type 0} → ℕ → List ℕ → Option (List ℕ) → Option (List ℕ) → Result (Unit {0}) E → Type 0
WritesAt at bytes None None result = Unit {0}
WritesAt at bytes None (Some new) result = ⊥
WritesAt at bytes (Some old) None result = ⊥
WritesAt at bytes (Some old) (Some new) result = Torn at (length bytes) old new × OnOk result (HasBytes at bytes old new)

-- the bytes from this place on, as many as the buffer has
abbrev pub Gives : ℕ → List ℕ → Option (List ℕ) → Type 0
Gives at buffer None = Unit {0}
Gives at buffer (Some file) = buffer ≡ take (length buffer) (drop at file)

-- the number is the file's length
abbrev pub IsLength : ℕ → Option (List ℕ) → Type 0
IsLength n None = Unit {0}
IsLength n (Some file) = n ≡ length file

-- a crash leaves what a read gives and nothing else, where that is told
abbrev pub Only : Option (List ℕ) → (List ℕ → Type 0) → Type 0
Only None leaves = Unit {0}
Only (Some file) leaves = (c : List ℕ) → leaves c → c ≡ file

-- a good sync answered at this moment, a failed one at none
abbrev pub NotesSync : {T E : Type 0} → ℕ → Option (List ℕ) → Option (List ℕ) → Result T E → Type 0
NotesSync now old new (Ok x) = new ≡ option_map (λ moments. moments ++ now ∷ []) old
NotesSync now old new (Err e) = new ≡ old
