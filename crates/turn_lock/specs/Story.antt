-- A value with a list of entries: what one run of a job may do to the list, and which entries stand where in it. Places count from 0.
use Rattle.std.specs.Prelude.{◌≡◌, ◌⊎◌, ◌+◌, ◌<◌, ℕ, List, [], ◌∷◌, ◌++◌, length, slice_get, Some, AllPairs, Contains}
use Rattle.std.specs.List.{AllZip}

module _ {E : Type 0} where
  -- the list stays, or gets one entry more at its end
  abbrev pub GrowsByOneAtMost : List E → List E → Type 0
  GrowsByOneAtMost before after = (after ≡ before) ⊎ ((entry : E) × (after ≡ before ++ entry ∷ []))

  -- the entries stand in the list at these places, in this order
  pub record StandAt (list : List E) (places : List ℕ) (entries : List E) : Type 0 where
    pub each : AllZip (λ place entry. slice_get list place ≡ Some entry) places entries
    pub count : length places ≡ length entries
    pub in_order : AllPairs (λ place later. place < later) places

  -- a list to which two have added: the entries of each stand at places of its own, in its order, and no others are there
  pub record IsOfTwo (list ours theirs : List E) : Type 0 where
    pub our_places : List ℕ
    pub their_places : List ℕ
    pub ours_stand : StandAt list our_places ours
    pub theirs_stand : StandAt list their_places theirs
    pub apart : (place : ℕ) → Contains our_places place → ¬ Contains their_places place
    pub counted : length list ≡ length ours + length theirs
