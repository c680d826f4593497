-- What is done over a link, whatever answers its calls and whatever that makes of a pass.
use Rattle.std.specs.Prelude.{◌≡◌, ◌≤◌, ◌<◌, ◌⊎◌, ℕ, true, List, [], ◌∷◌, ◌++◌, length, map}
use Rattle.office_types.specs.declared.refusal.Refusal.{Refusal}
use mathlib.Core.List.{IsPrefix}
use Rattle.desk_links.specs.Links.{LinkState, faults_of}
use Rattle.desk_traits.specs.Faults.{Rose}
use Rattle.byte_streams.specs.Flows.{Adds, IsAtEnd, Takes}
use Rattle.warn_http.specs.Calls.{Called, HasNoWholeCall, IsCall, IsCut, IsRefused, IsUnfinished, most_calls}
use Rattle.warn_serve.specs.Answers.{refused_answer}
use Rattle.warn_serve.specs.declared.links.LinkEnd.{LinkEnd}
use Rattle.warn_serve.specs.declared.links.LinkEnd.TheVariants.{Closed, Cut, Spent, LinkFault, OutOfMemory}

-- its input has ended
abbrev pub HasEnded : LinkState → Type 0
HasEnded link = IsAtEnd link.input.left

-- its count of faults has risen
abbrev pub HasFailed : LinkState → LinkState → Type 0
HasFailed old new = Rose (faults_of old) (faults_of new)

-- nothing else came, and no count has fallen
pub record IsLater (old new : LinkState) : Type 0 where
  pub came : new.came ≡ old.came
  pub reads : old.input.faults ≤ new.input.faults
  pub writes : old.output.faults ≤ new.output.faults

-- a call, and the answer that was written to it
pub record Said : Type 0 where
  pub called : Called
  pub answer : List ℕ

abbrev pub calls_of : List Said → List Called
calls_of said = map (λ s. s.called) said

-- the answers, one after another
abbrev pub answers_of : List Said → List ℕ
answers_of [] = []
answers_of (s ∷ said) = s.answer ++ answers_of said

-- how many calls were answered before a link ended so: its most, or fewer
abbrev pub HasCount : LinkEnd → ℕ → Type 0
HasCount Closed n = n < most_calls
HasCount Cut n = n < most_calls
HasCount Spent n = n ≡ most_calls
HasCount LinkFault n = n < most_calls
HasCount OutOfMemory n = n < most_calls

module _ {P : Type 0} (answers : Called → P → P → List ℕ → Type 0) where
  -- the calls are answered so, one after another
  abbrev pub Answered : P → List Said → P → Type 0
  Answered old [] new = new ≡ old
  Answered old (s ∷ said) new = (mid : P) × answers s.called old mid s.answer × Answered mid said new

  -- the call at the front of the bytes is judged so
  pub record IsJudged (rest : List ℕ) (mid new : P) (answer : List ℕ) : Type 0 where
    pub called : Called
    pub stands : IsCall rest called
    pub judged : answers called mid new answer

-- A call may be answered so, and its answer be lost so, where memory lacks for it.
module _ {P : Type 0} (answers lost : Called → P → P → List ℕ → Type 0) where
  -- Why the link ended, behind the calls that were answered and left it open: `rest` are the bytes behind them, and `tail` is what was written behind their answers.
  module _ (at_end failed : Type 0) (rest : List ℕ) (mid new : P) (tail : List ℕ) where
    -- nothing more was judged or written
    pub record IsAll : Type 0 where
      pub unused : new ≡ mid
      pub unwritten : tail ≡ []

    -- one call more was answered, after which the link closes
    pub record IsClosing : Type 0 where
      pub last_call : IsJudged answers rest mid new tail
      pub closes : last_call.called.last ≡ true

    -- the call at the front is refused, and this is told
    pub record IsRefusing : Type 0 where
      pub broken : Refusal
      pub refused : IsRefused rest broken
      pub told : tail ≡ refused_answer broken true
      pub unused : new ≡ mid

    -- a front of one answer more was written, to a call or to one that is refused
    pub record IsBroken : Type 0 where
      pub answer : List ℕ
      pub front : IsPrefix tail answer
      pub whose : IsJudged answers rest mid new answer ⊎ ((broken : Refusal) × IsRefused rest broken × (answer ≡ refused_answer broken true) × (new ≡ mid))

    -- one call more was judged, whose answer may be lost, and memory lacked for that
    pub record IsUnanswered : Type 0 where
      pub answer : List ℕ
      pub next_call : IsJudged lost rest mid new answer
      pub unwritten : tail ≡ []

    abbrev pub EndsSo : LinkEnd → Type 0
    EndsSo Closed = (at_end × (rest ≡ []) × IsUnfinished rest × IsAll) ⊎ (IsClosing ⊎ IsRefusing)
    EndsSo Cut = at_end × (0 < length rest) × IsUnfinished rest × IsAll
    EndsSo Spent = IsAll
    EndsSo LinkFault = failed × ((IsAll × HasNoWholeCall rest) ⊎ IsBroken)
    EndsSo OutOfMemory = IsAll ⊎ IsUnanswered

  -- What is done over a link of which `read` was read and on which `written` was written. `at_end` says that the input has ended, `failed` that the link has failed.
  pub record IsLinkRun (at_end failed : Type 0) (read written : List ℕ) (old new : P) (end : LinkEnd) : Type 0 where
    -- the calls that were answered, after each of which the link stayed open
    pub said : List Said
    pub rest : List ℕ
    pub mid : P
    pub tail : List ℕ
    pub cut : IsCut read (calls_of said) rest
    pub answered : Answered answers old said mid
    pub told : written ≡ answers_of said ++ tail
    pub count : HasCount end (length said)
    pub ends : EndsSo at_end failed rest mid new tail end

  -- all that is done over a link
  pub record IsServedLink (old new : LinkState) (pass pass' : P) (end : LinkEnd) : Type 0 where
    pub read : List ℕ
    pub written : List ℕ
    pub takes : Takes old.input.left new.input.left read
    pub adds : Adds old.output.taken new.output.taken written
    pub run : IsLinkRun (HasEnded new) (HasFailed old new) read written pass pass' end
    pub later : IsLater old new
