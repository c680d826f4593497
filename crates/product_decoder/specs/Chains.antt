-- Steps that zones share: each names the place of the step before it, and so ends a chain.
use Rattle.std.specs.Prelude.{◌≡◌, ◌==◌, ◌&&◌, ◌<◌, ◌≤◌, ℕ, suc, Bool, true, false, List, [], ◌∷◌, ◌++◌, fold, length, get_or, slice_get, nat_lt, if◌then◌else◌, Option, Some, None}
use Rattle.hazard_types.specs.contracts.codes.ActionPartialEq.TheImpl as action
use Rattle.hazard_types.specs.contracts.minute.MinutePartialEq.TheImpl as minute
use Rattle.product_decoder.specs.declared.zone_steps.SharedStep.{SharedStep}
use Rattle.product_decoder.specs.Steps.{Step}

-- a place that is named, where it is below this one
abbrev pub below : ℕ → Option ℕ → Option ℕ
below place None = None
below place (Some before) = if nat_lt before place then Some before else None

-- how many places there are up to this one
abbrev pub height : Option ℕ → ℕ
height None = 0
height (Some place) = suc place

-- the chain that ends at a place, which has no steps where none stands there
abbrev pub told : List (List Step) → Option ℕ → List Step
told chains None = []
told chains (Some place) = get_or chains place []

abbrev pub step_of : SharedStep → Step
step_of s = (s.action, s.issue)

-- the chains with the one that a step ends
abbrev pub with_shared : List (List Step) → SharedStep → List (List Step)
with_shared chains s = chains ++ (told chains s.before ++ step_of s ∷ []) ∷ []

-- the chain that each step ends
abbrev pub chains_of : List SharedStep → List (List Step)
chains_of shared = fold with_shared [] shared

abbrev pub same_place : Option ℕ → Option ℕ → Bool
same_place None None = true
same_place (Some a) (Some b) = a == b
same_place _ _ = false

-- the step at this place is this one, behind the one at a place
abbrev pub is_step : Option SharedStep → ℕ → Step → Option ℕ → Bool
is_step None place step before = false
is_step (Some s) place step before = action.eq-value.it s.action step.0 && minute.eq-value.it s.issue step.1 && same_place (below place s.before) before

abbrev pub is_last : List SharedStep → ℕ → Step → Option ℕ → Bool
is_last shared last step before = is_step (slice_get shared last) last step before

-- a step behind the one at a place ends the chain at its own, and the chains from before are as they were
pub record IsPlaced (old new : List SharedStep) (before : Option ℕ) (step : Step) (place : ℕ) : Type 0 where
  pub within : place < length new
  pub ends : told (chains_of new) (Some place) ≡ told (chains_of old) before ++ step ∷ []
  pub longer : length old ≤ length new
  pub kept : (other : ℕ) → other < length old → told (chains_of new) (Some other) ≡ told (chains_of old) (Some other)
