-- A link that did not fail, and for which memory did not lack: all calls of the bytes that were read were answered, in order.
use Rattle.std.specs.Prelude.{◌≡◌, ℕ, true, List, [], ◌++◌, ⊤}
use Rattle.warn_http.specs.Calls.{AreCalls, Called, Stop, refused, closed, spent, left}
use Rattle.warn_serve.specs.Answers.{refused_answer}
use Rattle.byte_streams.specs.Flows.{Adds, Takes}
use Rattle.desk_links.specs.Links.{LinkState}
use Rattle.warn_serve.specs.Links.{Answered, Said, answers_of, calls_of}
use Rattle.warn_serve.specs.declared.links.LinkEnd.{LinkEnd}
use Rattle.warn_serve.specs.declared.links.LinkEnd.TheVariants.{Closed, Cut, Spent, LinkFault, OutOfMemory}

-- the ends of links that did not fail
abbrev pub IsWhole : LinkEnd → Type 0
IsWhole Closed = ⊤
IsWhole Cut = ⊤
IsWhole Spent = ⊤
IsWhole LinkFault = ⊥
IsWhole OutOfMemory = ⊥

-- what is told behind the answers to the calls of a stream: the refusal at which they end
abbrev pub told_at : Stop → List ℕ
told_at (refused broken) = refused_answer broken true
told_at closed = []
told_at spent = []
told_at (left rest) = []

-- the calls of the bytes were answered, each once and in order, and nothing else was written
pub record AnswersCalls {P : Type 0} (answers : Called → P → P → List ℕ → Type 0) (read written : List ℕ) (old new : P) : Type 0 where
  pub said : List Said
  pub stop : Stop
  pub calls : AreCalls read (calls_of said) stop
  pub answered : Answered answers old said new
  pub told : written ≡ answers_of said ++ told_at stop

-- the same over a link
pub record AnswersLink {P : Type 0} (answers : Called → P → P → List ℕ → Type 0) (old new : LinkState) (pass pass' : P) : Type 0 where
  pub read : List ℕ
  pub written : List ℕ
  pub takes : Takes old.input.left new.input.left read
  pub adds : Adds old.output.taken new.output.taken written
  pub calls : AnswersCalls answers read written pass pass'
