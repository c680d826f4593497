-- Passes that are split off and joined again.
use Rattle.std.specs.Prelude.{◌≡◌, ◌≢◌, ◌+◌, ◌<◌, ◌++◌, ◌∷◌, [], ℕ, List, All, AllPairs, Contains, length}
use mathlib.Core.List.{IsPrefix}
use Rattle.turn_lock.specs.Passes.{PassRecord}

module _ {B E : Type 0} where
  -- a pass of one share that has seen nothing more and has no entries of its own
  pub record IsShareOf (whole share : PassRecord B E) : Type 0 where
    pub lock : share.lock ≡ whole.lock
    pub base : share.base ≡ whole.base
    pub first : share.first ≡ whole.first
    pub seen : share.seen ≡ whole.seen
    pub mine : share.mine ≡ []
    pub shares : share.shares ≡ 1

  -- the places of several passes, one pass after another
  abbrev pub places_of : List (PassRecord B E) → List ℕ
  places_of [] = []
  places_of (p ∷ ps) = p.mine ++ places_of ps

  -- a pass that took in these
  pub record Gathers (old new : PassRecord B E) (parts : List (PassRecord B E)) : Type 0 where
    pub lock : new.lock ≡ old.lock
    pub base : new.base ≡ old.base
    pub first : new.first ≡ old.first
    pub mine : new.mine ≡ old.mine ++ places_of parts
    pub seen : IsPrefix old.seen new.seen
    pub theirs : All (λ p. IsPrefix p.seen new.seen) parts

-- what a closed list is to those who shared it: each has seen a beginning of it, and each place from the first length on is that of one of their entries, once
pub record IsShared {B E : Type 0} (first : ℕ) (list : List E) (parts : List (PassRecord B E)) : Type 0 where
  pub begins : All (λ p. IsPrefix p.seen list) parts
  pub once : AllPairs (λ place later. place ≢ later) (places_of parts)
  pub all : (place : ℕ) → first + place < length list → Contains (places_of parts) (first + place)
  pub counted : length list ≡ first + length (places_of parts)
