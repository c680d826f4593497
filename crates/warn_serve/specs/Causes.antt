-- Why a link ended, over the bytes that were read of it.
use Rattle.std.specs.Prelude.{◌≡◌, ◌<◌, ◌⊎◌, ℕ, List, [], length, ⊤}
use Rattle.office_types.specs.declared.refusal.Refusal.TheVariants.{BadHead}
use Rattle.httparse.specs.Grammar.{EndsInTarget}
use Rattle.warn_http.specs.Calls.{AreCalls, Called, Stop, refused, closed, spent, left}
use Rattle.desk_links.specs.Links.{LinkState}
use Rattle.warn_serve.specs.Links.{HasEnded, HasFailed}
use Rattle.warn_serve.specs.declared.links.LinkEnd.{LinkEnd}
use Rattle.warn_serve.specs.declared.links.LinkEnd.TheVariants.{Closed, Cut, Spent, LinkFault, OutOfMemory}

-- the calls end at one that is refused, after one that closes the link, or with no bytes behind them where the input has ended
abbrev pub IsOver : LinkState → Stop → Type 0
IsOver new (refused broken) = ⊤
IsOver new closed = ⊤
IsOver new spent = ⊥
IsOver new (left rest) = HasEnded new × (rest ≡ [])

-- The cause of each end: how the calls of the bytes end, and whether the input has ended there. A fault of the link has its count as its cause; that memory ran out shows nowhere.
abbrev pub HasCause : LinkState → LinkState → List ℕ → LinkEnd → Type 0
HasCause old new read Closed = (calls : List Called) × (stop : Stop) × AreCalls read calls stop × IsOver new stop
HasCause old new read Cut = (calls : List Called) × (rest : List ℕ) × AreCalls read calls (left rest) × (0 < length rest) × HasEnded new
HasCause old new read Spent = (calls : List Called) × AreCalls read calls spent
HasCause old new read LinkFault = HasFailed old new
HasCause old new read OutOfMemory = ⊤

-- F1 refuses what is behind the calls, which ends within a target and so counts as the beginning of a call as well
pub record EndsInBadTarget (read : List ℕ) : Type 0 where
  pub calls : List Called
  pub rest : List ℕ
  pub refusing : AreCalls read calls (refused BadHead)
  pub unfinished : AreCalls read calls (left rest)
  pub within : EndsInTarget rest

-- the same end; but of bytes that end in a bad target one link may have told F1, and another been cut
abbrev pub EndAlike : List ℕ → LinkEnd → LinkEnd → Type 0
EndAlike read end other =
    (end ≡ other)
    ⊎ (EndsInBadTarget read × (((end ≡ Closed) × (other ≡ Cut)) ⊎ ((end ≡ Cut) × (other ≡ Closed))))
