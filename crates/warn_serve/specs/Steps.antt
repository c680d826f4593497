-- What is done over a link step by step, whatever answers its calls and whatever that makes of a pass. `held` are the bytes that were read and are no part of a call that was answered.
use Rattle.std.specs.Prelude.{◌≡◌, ◌≤◌, ℕ, Bool, List, [], true, false, ◌++◌, length, drop, Option, None, Some}
use mathlib.Core.List.{IsPrefix}
use Rattle.byte_streams.specs.Flows.{Adds, Takes}
use Rattle.desk_links.specs.Links.{LinkState}
use Rattle.warn_http.specs.Calls.{Called, IsCut}
use Rattle.warn_serve.specs.Links.{Answered, EndsSo, HasCount, HasEnded, HasFailed, IsJudged, IsLater, Said, answers_of, calls_of}
use Rattle.warn_serve.specs.declared.links.LinkEnd.{LinkEnd}
use Rattle.warn_serve.specs.declared.links.LinkEnd.TheVariants.{Closed, Cut, Spent, LinkFault, OutOfMemory}

-- nothing else came, and no count has risen
pub record IsSteady (old new : LinkState) : Type 0 where
  pub came : new.came ≡ old.came
  pub reads : new.input.faults ≡ old.input.faults
  pub writes : new.output.faults ≡ old.output.faults

-- nothing was written, and no write failed
pub record IsUnwritten (old new : LinkState) : Type 0 where
  pub came : new.came ≡ old.came
  pub output : new.output ≡ old.output
  pub later : old.input.faults ≤ new.input.faults

-- this alone was written, and nothing read
pub record WritesAlone (old new : LinkState) (written : List ℕ) : Type 0 where
  pub came : new.came ≡ old.came
  pub input : new.input ≡ old.input
  pub adds : Adds old.output.taken new.output.taken written
  pub later : old.output.faults ≤ new.output.faults

-- An answer was written, after which the link closes or stays open; or a front of it, before a fault; or none, for want of memory, where it may be lost.
abbrev pub Sends : Type 0 → LinkState → LinkState → List ℕ → Bool → Option LinkEnd → Type 0
Sends lost old new answer last None = (last ≡ false) × WritesAlone old new answer × (new.output.faults ≡ old.output.faults)
Sends lost old new answer last (Some Closed) = (last ≡ true) × WritesAlone old new answer
Sends lost old new answer last (Some Cut) = ⊥
Sends lost old new answer last (Some Spent) = ⊥
Sends lost old new answer last (Some LinkFault) = HasFailed old new × (front : List ℕ) × IsPrefix front answer × WritesAlone old new front
Sends lost old new answer last (Some OutOfMemory) = lost × WritesAlone old new []

module _ {P : Type 0} (answers : Called → P → P → List ℕ → Type 0) where
  -- one call more was answered, and the link stays open
  pub record GoesOn (old new : LinkState) (pass pass' : P) (held held' : List ℕ) : Type 0 where
    pub read : List ℕ
    pub takes : Takes old.input.left new.input.left read
    pub answer : List ℕ
    pub one : IsJudged answers (held ++ read) pass pass' answer
    pub stays_open : one.called.last ≡ false
    pub adds : Adds old.output.taken new.output.taken answer
    pub behind : held' ≡ drop one.called.used (held ++ read)
    pub steady : IsSteady old new

  -- so many calls were answered, and the link is open
  pub record HasGone (old new : LinkState) (pass pass' : P) (held : List ℕ) (count : ℕ) : Type 0 where
    pub read : List ℕ
    pub said : List Said
    pub takes : Takes old.input.left new.input.left read
    pub cut : IsCut read (calls_of said) held
    pub answered : Answered answers pass said pass'
    pub adds : Adds old.output.taken new.output.taken (answers_of said)
    pub counted : length said ≡ count
    pub steady : IsSteady old new

module _ {P : Type 0} (answers lost : Called → P → P → List ℕ → Type 0) where
  -- the link ended
  pub record StopsSo (old new : LinkState) (pass pass' : P) (held : List ℕ) (end : LinkEnd) : Type 0 where
    pub read : List ℕ
    pub takes : Takes old.input.left new.input.left read
    pub tail : List ℕ
    pub adds : Adds old.output.taken new.output.taken tail
    -- not for the number of its calls
    pub early : HasCount end 0
    pub ends : EndsSo answers lost (HasEnded new) (HasFailed old new) (held ++ read) pass pass' tail end
    pub later : IsLater old new

  -- one call more was answered, and the link stays open, or it ended
  abbrev pub ServesNext : LinkState → LinkState → P → P → List ℕ → List ℕ → Option LinkEnd → Type 0
  ServesNext old new pass pass' held held' None = GoesOn answers old new pass pass' held held'
  ServesNext old new pass pass' held held' (Some end) = StopsSo old new pass pass' held end
