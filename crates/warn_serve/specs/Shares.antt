-- How links are shared out among workers.
use Rattle.std.specs.Prelude.{◌≡◌, ◌⊎◌, ◌<◌, ◌+◌, ◌-◌, ◌/◌, ◌%◌, ℕ, zero, suc, List, [], ◌∷◌, length, ⊤}
use Rattle.warn_serve.specs.Workers.{Visit, out_of_memory_ends}
use Rattle.warn_serve.specs.declared.serving.ServeEnd.{ServeEnd}
use Rattle.warn_serve.specs.declared.serving.ServeEnd.TheVariants.{Done, PortFault, OutOfMemory}
use Rattle.warn_serve.specs.declared.workers.WorkerEnd.{WorkerEnd}
use Rattle.warn_serve.specs.declared.workers.WorkerEnd.TheVariants.{Done as Worked, PortFault as Failed}

-- all shares together
abbrev pub total_of : List ℕ → ℕ
total_of [] = 0
total_of (share ∷ shares) = share + total_of shares

-- the share of the next worker: the whole part of the quotient, and one link more while some are left over
abbrev pub share_at : ℕ → ℕ → ℕ
share_at whole zero = whole
share_at whole (suc more) = whole + 1

-- shares for so many workers, the first of which get one link more
abbrev pub even_shares : ℕ → ℕ → ℕ → List ℕ
even_shares zero whole more = []
even_shares (suc workers) whole more = share_at whole more ∷ even_shares workers whole (more - 1)

-- the shares of so many workers in so many links
abbrev pub shares_of : ℕ → ℕ → List ℕ
shares_of workers connections = even_shares workers (connections / workers) (connections % workers)

-- the shares that have links
abbrev pub with_links : List ℕ → List ℕ
with_links [] = []
with_links (zero ∷ shares) = with_links shares
with_links (suc share ∷ shares) = suc share ∷ with_links shares

-- a worker served its share, so many links of which memory ended; or an accept failed before
abbrev pub ServesShare : ℕ → List Visit → WorkerEnd → Type 0
ServesShare share visits (Worked lacks) = (length visits ≡ share) × (lacks ≡ out_of_memory_ends visits)
ServesShare share visits Failed = length visits < share

-- not all was done
abbrev pub FallsShort : ServeEnd → Type 0
FallsShort Done = ⊥
FallsShort PortFault = ⊤
FallsShort OutOfMemory = ⊤

-- Each worker that has links has its own share of them. Or there is no worker for some links, and that is told: memory ran out for one, or the port gave no doors.
abbrev pub SharesOut : ℕ → ℕ → List ℕ → ServeEnd → Type 0
SharesOut workers connections shares end =
    (with_links shares ≡ with_links (shares_of workers connections))
    ⊎ ((total_of shares < connections) × FallsShort end)
