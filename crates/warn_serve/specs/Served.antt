-- What has become of a kept office that was served over the links of a port.
use Rattle.std.specs.Prelude.{◌≡◌, ◌⊎◌, ◌≤◌, ◌<◌, ◌+◌, ◌-◌, ◌^◌, ◌++◌, ℕ, ℤ, All, List, [], ◌∷◌, length, map, min, Option, None, Some}
use Rattle.desk_traits.specs.Faults.{Rose}
use Rattle.desk_traits.specs.declared.disk.Disk.{Ghosts as Disks}
use Rattle.desk_links.specs.Links.{LinkState, PortState, with_one}
use Rattle.office_journal.specs.declared.kept.KeptOffice.{KeptOffice}
use Rattle.turn_lock.specs.Passes.{PassRecord}
use Rattle.office_turns.specs.Since.{IsSince}
use Rattle.office_turns.specs.declared.happening.Happening.{Happening}
use Rattle.warn_serve.specs.Calls.{AnswersCall, LosesCall}
use Rattle.warn_serve.specs.Shares.{ServesShare, SharesOut}
use Rattle.warn_serve.specs.Sharing.{IsShared}
use Rattle.warn_serve.specs.Workers.{AreVisits, Visit, out_of_memory_ends, links_of}
use Rattle.warn_serve.specs.declared.serving.ServeEnd.{ServeEnd}
use Rattle.warn_serve.specs.declared.serving.ServeEnd.TheVariants.{Done, PortFault, OutOfMemory}
use Rattle.warn_serve.specs.declared.workers.WorkerEnd.{WorkerEnd}

-- The port listened at this number, once; or it gave no doors, and no link.
abbrev pub HasListened : ℕ → PortState → PortState → Type 0
HasListened number first last = (last.numbers ≡ with_one first.numbers number) ⊎ ((last.numbers ≡ first.numbers) × (last.returned ≡ first.returned))

-- a worker's share of the links, its pass at its end, the links that it served, and how it ended
pub record Part (P : Type 0) : Type 0 where
  pub share : ℕ
  pub pass : P
  pub visits : List Visit
  pub end : WorkerEnd

module _ {P : Type 0} where
  abbrev pub passes_of : List (Part P) → List P
  passes_of parts = map (λ p. p.pass) parts

  abbrev pub shares_in : List (Part P) → List ℕ
  shares_in parts = map (λ p. p.share) parts

  -- the links that all workers served, worker by worker
  abbrev pub visits_of : List (Part P) → List Visit
  visits_of [] = []
  visits_of (p ∷ parts) = p.visits ++ visits_of parts

-- where links are told at the end, they are those told before, and these behind them
abbrev pub TellsBehind : Option (List LinkState) → Option (List LinkState) → List LinkState → Type 0
TellsBehind first None more = Unit {0}
TellsBehind first (Some last) more = (before : List LinkState) × (first ≡ Some before) × (last ≡ before ++ more)

-- All links were served, and none of them ended for want of memory; or the port or a door failed, and
-- links are missing; or links are missing, or one ended for want of memory. Only where the port or a
-- door failed has the port's count of faults risen.
abbrev pub EndsAs : PortState → PortState → ℕ → List Visit → ServeEnd → Type 0
EndsAs first last connections visits Done = (length visits ≡ connections) × (out_of_memory_ends visits ≡ 0) × (last.faults ≤ first.faults)
EndsAs first last connections visits PortFault = (length visits < connections) × Rose first.faults last.faults
EndsAs first last connections visits OutOfMemory = ((length visits < connections) ⊎ (0 < out_of_memory_ends visits)) × (last.faults ≤ first.faults)

module _ {D : Type 0} (d : Disks D) (gives : ℤ → Type 0) (opened : KeptOffice D d) where
  -- a worker that had seen nothing since the opening made its visits
  pub record HasPart (p : Part (PassRecord (KeptOffice D d) (Happening D d))) : Type 0 where
    pub start : PassRecord (KeptOffice D d) (Happening D d)
    pub base : start.base ≡ opened
    pub unseen : start.seen ≡ []
    pub none_added : start.mine ≡ []
    pub visits : AreVisits (AnswersCall gives) (LosesCall gives) start p.visits p.pass
    pub ends : ServesShare p.share p.visits p.end

  -- There is one list of happenings since the opening, those of the calls on these links, each once; the links were shared out among the workers; and they went back to the port, which had listened at the number.
  pub record IsServed (kept : KeptOffice D d) (number workers connections : ℕ) (first last : PortState) (end : ServeEnd) : Type 0 where
    pub happenings : List (Happening D d)
    pub since : IsSince d opened kept happenings
    pub parts : List (Part (PassRecord (KeptOffice D d) (Happening D d)))
    pub shared : IsShared 0 happenings (passes_of parts)
    pub served : All HasPart parts
    pub shares : SharesOut workers connections (shares_in parts) end
    pub listened : HasListened number first last
    pub returned : last.returned ≡ first.returned + length (visits_of parts)
    pub links : TellsBehind first.links last.links (links_of (visits_of parts))
    pub later : min first.faults (2 ^ 64 - 1) ≤ last.faults
    pub ends : EndsAs first last connections (visits_of parts) end
