-- What workers have done by shares of one pass, and what becomes of these and of their doors.
use Rattle.std.specs.Prelude.{◌≡◌, ◌+◌, ◌-◌, ◌^◌, ◌≤◌, ℕ, zero, suc, All, List, length, min}
use Rattle.desk_links.specs.Links.{DoorState, IsUnused, PortState}
use Rattle.turn_lock.specs.Passes.{KeepsRights, PassRecord}
use Rattle.warn_http.specs.Calls.{Called}
use Rattle.warn_serve.specs.Served.{EndsAs, Part, TellsBehind, passes_of, shares_in, visits_of}
use Rattle.warn_serve.specs.Shares.{ServesShare}
use Rattle.warn_serve.specs.Sharing.{Gathers, IsShareOf}
use Rattle.warn_serve.specs.Workers.{AreVisits, HasWorked, Visit, links_of}
use Rattle.warn_serve.specs.declared.serving.ServeEnd.{ServeEnd}
use Rattle.warn_serve.specs.declared.serving.ServeEnd.TheVariants.{Done, PortFault, OutOfMemory}
use Rattle.warn_serve.specs.declared.workers.WorkerEnd.{WorkerEnd}
use Rattle.warn_serve.specs.declared.workers.WorkerEnd.TheVariants.{Done as Worked, PortFault as Failed}

-- an end, where for so many links memory lacked
abbrev pub end_with_losses : ServeEnd → ℕ → ServeEnd
end_with_losses Done zero = Done
end_with_losses Done (suc lacks) = OutOfMemory
end_with_losses PortFault lacks = PortFault
end_with_losses OutOfMemory lacks = OutOfMemory

-- an end, after one worker more that ended so
abbrev pub end_after : ServeEnd → WorkerEnd → ServeEnd
end_after end (Worked lacks) = end_with_losses end lacks
end_after end Failed = PortFault

-- these links went back to the port, with their doors
pub record TakesBack (first last : PortState) (visits : List Visit) : Type 0 where
  pub returned : last.returned ≡ first.returned + length visits
  pub links : TellsBehind first.links last.links (links_of visits)
  pub later : min first.faults (2 ^ 64 - 1) ≤ last.faults

-- a pass is a share of another one, and a door was not used
pub record IsFresh {B E : Type 0} (whole pass : PassRecord B E) (door : DoorState) (share most : ℕ) : Type 0 where
  pub is_share : IsShareOf whole pass
  pub unused : IsUnused door
  pub few : share ≤ most

-- what a pass keeps of which shares are split off
pub record KeepsWhole {B E : Type 0} (old new : PassRecord B E) : Type 0 where
  pub lock : new.lock ≡ old.lock
  pub base : new.base ≡ old.base
  pub first : new.first ≡ old.first
  pub seen : new.seen ≡ old.seen
  pub mine : new.mine ≡ old.mine

module _ {B E : Type 0} (answers lost : Called → PassRecord B E → PassRecord B E → List ℕ → Type 0) where
  -- a worker has done its share, and all its links went back to its door
  pub record DoesShare (share : ℕ) (first last : DoorState) (old new : PassRecord B E) (end : WorkerEnd) : Type 0 where
    pub rights : KeepsRights old new
    pub none_out : last.given ≡ last.returned
    pub worked : HasWorked answers lost share first last old new end

  -- the same with a share of this pass, from an unused door on
  pub record HasDone (whole : PassRecord B E) (share : ℕ) (door : DoorState) (pass : PassRecord B E) (end : WorkerEnd) : Type 0 where
    pub start : PassRecord B E
    pub is_share : IsShareOf whole start
    pub first : DoorState
    pub unused : IsUnused first
    pub does : DoesShare share first door start pass end

  -- a worker made its visits with a share of this pass
  pub record IsPartOf (whole : PassRecord B E) (p : Part (PassRecord B E)) : Type 0 where
    pub start : PassRecord B E
    pub is_share : IsShareOf whole start
    pub visits : AreVisits answers lost start p.visits p.pass
    pub ends : ServesShare p.share p.visits p.end

  -- the passes of workers that had these shares of so many links were taken in, and their doors went back to the port
  pub record IsGathered (given : List ℕ) (shares : ℕ) (first last : PortState) (old new : PassRecord B E) (end : ServeEnd) : Type 0 where
    pub parts : List (Part (PassRecord B E))
    pub given_is : shares_in parts ≡ given
    pub passes : Gathers old new (passes_of parts)
    pub served : All (IsPartOf old) parts
    pub back : TakesBack first last (visits_of parts)
    pub within : length (visits_of parts) ≤ shares
    pub ends : EndsAs first last shares (visits_of parts) end
