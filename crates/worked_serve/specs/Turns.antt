-- What passes add.
use Rattle.std.specs.Prelude.{◌≡◌, ◌+◌, ℕ, length}
use Rattle.turn_lock.specs.Passes.{PassRecord}

module _ {B E : Type 0} where
  -- the pass added so many entries, and has the rights that it had
  pub record Adds (count : ℕ) (old new : PassRecord B E) : Type 0 where
    pub lock : new.lock ≡ old.lock
    pub first : new.first ≡ old.first
    pub shares : new.shares ≡ old.shares
    pub mine : length new.mine ≡ length old.mine + count
