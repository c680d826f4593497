-- What a pass is to its holder, and what each call does to it.
use Rattle.std.specs.Prelude.{◌≡◌, ◌≢◌, ◌⊎◌, ℕ, ◌+◌, ◌-◌, ◌<◌, ◌≤◌, All, AllPairs, Contains, List, [], ◌∷◌, ◌++◌, length, Option, Some, None, IsSome, nat_le, if◌then◌else◌}
use Rattle.std.proofs.lemmas.Bool.{false≢true}
use mathlib.Core.List.{IsPrefix}
use Rattle.atomic_table.specs.Seated.{TableId}
use Rattle.turn_lock.specs.declared.view.View.{View}

-- what tells a lock from every other
abbrev pub LockName : Type 0
LockName = TableId

pub record PassRecord (B E : Type 0) : Type 0 where
  -- the lock that the pass belongs to
  pub lock : LockName
  -- the base of the lock's value
  pub base : B
  -- the length of the list that `start` found
  pub first : ℕ
  -- the value's list, as the pass last learnt it
  pub seen : List E
  -- the places of the pass's own entries in the value's list, counted from 0
  pub mine : List ℕ
  -- how many of the 1,024 shares of the lock it has
  pub shares : ℕ

module _ {E : Type 0} where
  -- of two lists the longer one, where one begins the other
  abbrev pub longer : List E → List E → List E
  longer xs ys = if nat_le (length xs) (length ys) then ys else xs

  -- and the other one
  abbrev pub shorter : List E → List E → List E
  shorter xs ys = if nat_le (length xs) (length ys) then xs else ys

  -- the places of own entries after a run that found the list `before` and left `after`: where it added an entry, that entry's place behind the others
  abbrev pub PlacesAfter : List E → List E → List ℕ → List ℕ → Type 0
  PlacesAfter before after old new = ((after ≡ before) × (new ≡ old)) ⊎ ((entry : E) × (after ≡ before ++ entry ∷ []) × (new ≡ old ++ length before ∷ []))

module _ {B E : Type 0} where
  -- the pass of a new lock
  abbrev pub first_pass : LockName → B → List E → PassRecord B E
  first_pass lock base list = record { lock = lock; base = base; first = length list; seen = list; mine = []; shares = 1024 }

  -- a pass after one of its shares was split off
  abbrev pub one_share_fewer : PassRecord B E → PassRecord B E
  one_share_fewer p = record { lock = p.lock; base = p.base; first = p.first; seen = p.seen; mine = p.mine; shares = p.shares - 1 }

  -- the pass with that share: it has seen the same, and has no entries of its own
  abbrev pub one_share_of : PassRecord B E → PassRecord B E
  one_share_of p = record { lock = p.lock; base = p.base; first = p.first; seen = p.seen; mine = []; shares = 1 }

  -- two passes made one
  abbrev pub joined : PassRecord B E → PassRecord B E → PassRecord B E
  joined p q = record { lock = p.lock; base = p.base; first = p.first; seen = longer p.seen q.seen; mine = p.mine ++ q.mine; shares = p.shares + q.shares }

  -- what a turn leaves as it was
  pub record KeepsRights (old new : PassRecord B E) : Type 0 where
    pub lock : new.lock ≡ old.lock
    pub base : new.base ≡ old.base
    pub first : new.first ≡ old.first
    pub shares : new.shares ≡ old.shares

-- One turn: the job ran once, on a value that has the pass's base and whose list begins with what the pass had seen.
pub record TakesTurn {T B E Out : Type 0} (base_of : T → B) (story_of : T → List E) (meets : B → List E → List E → Out → Type 0) (old new : PassRecord B E) (answer : Out) : Type 0 where
  pub before : T
  pub after : T
  pub base_before : base_of before ≡ old.base
  pub base_after : base_of after ≡ old.base
  pub begins : IsPrefix old.seen (story_of before)
  -- a pass with all shares is the only one
  pub alone : old.shares ≡ 1024 → story_of before ≡ old.seen
  pub met : meets old.base (story_of before) (story_of after) answer
  pub seen : new.seen ≡ story_of after
  pub mine : PlacesAfter (story_of before) (story_of after) old.mine new.mine

-- What closing a lock with a pass that has all shares gives: a value with the pass's base, whose list begins with what the pass had seen. The pass's own entries stand in it, each once, and from the first length on no others.
pub record Closes {B E : Type 0} (pass : PassRecord B E) (base : B) (list : List E) : Type 0 where
  pub same_base : base ≡ pass.base
  pub begins : IsPrefix pass.seen list
  pub holds : All (λ place. (pass.first ≤ place) × (place < length list)) pass.mine
  pub once : AllPairs (λ place later. place ≢ later) pass.mine
  pub all : (place : ℕ) → pass.first ≤ place → place < length list → Contains pass.mine place
  pub counted : length list ≡ pass.first + length pass.mine

module _ {B : Type 0} where
  -- the base of a view that has one
  abbrev pub base_in : (base : Option B) → IsSome base → B
  base_in (Some b) is = b
  base_in None is = absurd (false≢true is)

module _ {B E : Type 0} where
  -- a pass is what the view of its seat says
  abbrev pub pass_of : LockName → (v : View B E) → IsSome v.base → PassRecord B E
  pass_of lock v live = record { lock = lock; base = base_in v.base live; first = v.first; seen = v.seen; mine = v.mine; shares = v.shares }
