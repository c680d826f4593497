-- What a worker does over the links of a door, whatever answers the calls on them.
use Rattle.std.specs.Prelude.{◌≡◌, ◌<◌, ◌+◌, ◌++◌, ℕ, List, [], ◌∷◌, length, map, option_map}
use Rattle.desk_traits.specs.Faults.{Rose}
use Rattle.desk_links.specs.Links.{DoorState, IsNew, LinkState}
use Rattle.warn_http.specs.Calls.{Called}
use Rattle.warn_serve.specs.Links.{IsServedLink}
use Rattle.warn_serve.specs.declared.links.LinkEnd.{LinkEnd}
use Rattle.warn_serve.specs.declared.links.LinkEnd.TheVariants.{OutOfMemory}
use Rattle.warn_serve.specs.declared.workers.WorkerEnd.{WorkerEnd}
use Rattle.warn_serve.specs.declared.workers.WorkerEnd.TheVariants.{Done, PortFault}

-- a link as it was returned to its door, and how it ended
pub record Visit : Type 0 where
  pub link : LinkState
  pub end : LinkEnd

-- 1 for a link that memory ended
abbrev pub count_if_out_of_memory : LinkEnd → ℕ
count_if_out_of_memory OutOfMemory = 1
count_if_out_of_memory _ = 0

-- the links that were returned, in order
abbrev pub links_of : List Visit → List LinkState
links_of visits = map (λ v. v.link) visits

-- how many of them memory ended
abbrev pub out_of_memory_ends : List Visit → ℕ
out_of_memory_ends [] = 0
out_of_memory_ends (v ∷ visits) = count_if_out_of_memory v.end + out_of_memory_ends visits

-- these links were given, and returned
pub record GivesBack (old new : DoorState) (visits : List Visit) : Type 0 where
  pub given : new.given ≡ old.given + length visits
  pub returned : new.returned ≡ old.returned + length visits
  pub links : new.links ≡ option_map (λ before. before ++ links_of visits) old.links

-- no link came: an accept failed, and all else is as before
pub record HasNone {P : Type 0} (first last : DoorState) (old new : P) : Type 0 where
  pub given : last.given ≡ first.given
  pub returned : last.returned ≡ first.returned
  pub links : last.links ≡ first.links
  pub failed : Rose first.faults last.faults
  pub unused : new ≡ old

-- A worker serves its share of links, or fewer where an accept failed. It tells how many of them memory ended.
abbrev pub EndsWith : DoorState → DoorState → ℕ → List Visit → WorkerEnd → Type 0
EndsWith old new share visits (Done lacks) = (length visits ≡ share) × (lacks ≡ out_of_memory_ends visits) × (new.faults ≡ old.faults)
EndsWith old new share visits PortFault = (length visits < share) × Rose old.faults new.faults

module _ {P : Type 0} (answers lost : Called → P → P → List ℕ → Type 0) where
  -- a link of which nothing was read and on which nothing was written was served, and then stood so
  pub record IsVisit (old new : P) (v : Visit) : Type 0 where
    pub given : LinkState
    pub fresh : IsNew given
    pub served : IsServedLink answers lost given v.link old new v.end

  -- the links were served so, one after another
  abbrev pub AreVisits : P → List Visit → P → Type 0
  AreVisits old [] new = new ≡ old
  AreVisits old (v ∷ visits) new = (mid : P) × IsVisit old mid v × AreVisits mid visits new

  -- one link more was served, and went back
  pub record ServesOne (first last : DoorState) (old new : P) (end : LinkEnd) : Type 0 where
    pub link : LinkState
    pub visit : IsVisit old new (record { link = link; end = end })
    pub gives_back : GivesBack first last (record { link = link; end = end } ∷ [])
    pub steady : last.faults ≡ first.faults

  -- so many links were served
  pub record HasServed (count lacks : ℕ) (first last : DoorState) (old new : P) : Type 0 where
    pub visits : List Visit
    pub served : AreVisits old visits new
    pub gives_back : GivesBack first last visits
    pub counted : length visits ≡ count
    pub lacked : out_of_memory_ends visits ≡ lacks
    pub steady : last.faults ≡ first.faults

  -- a worker served its share of links, or fewer where an accept failed, and all of them went back
  pub record HasWorked (share : ℕ) (first last : DoorState) (old new : P) (end : WorkerEnd) : Type 0 where
    pub visits : List Visit
    pub served : AreVisits old visits new
    pub gives_back : GivesBack first last visits
    pub ends : EndsWith first last share visits end
