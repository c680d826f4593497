-- The rounds of a run, over one link after another.
use Rattle.std.specs.Prelude.{◌≡◌, ◌≤◌, ◌⊎◌, ◌++◌, ◌+◌, ◌-◌, ◌^◌, min, ℕ, List, [], ◌∷◌, length, Option, Some, None, option_map}
use Rattle.desk_links.specs.Links.{DialerState, LinkState}
use Rattle.byte_streams.specs.Flows.{Takes}
use Rattle.product_decoder.specs.ReaderModel.{Reading}
use Rattle.follow_core.specs.Hearing.{place_of}
use Rattle.follow_links.specs.Answers.{Answer}
use Rattle.follow_links.specs.Talks.{IsTalk, bodies, after_all, asks_in, fails_in}
use Rattle.follow_links.specs.declared.talk.LinkEnd.{LinkEnd}
use Rattle.follow_links.specs.declared.talk.LinkEnd.TheVariants as link
use Rattle.follow_links.specs.declared.rounds.Stop.{Stop}
use Rattle.follow_links.specs.declared.rounds.Stop.TheVariants.{Spent, Ended, Bad, OutOfMemory}

-- A dial that failed, or the texts that were taken on one link, and how it was left.
pub data Turn : Type 0 where
  NotDialed : Turn
  Talked : (answers : List Answer) → (end : LinkEnd) → Turn

-- the rounds of a turn: a dial that failed, or each question on the link
abbrev pub rounds_of : Turn → ℕ
rounds_of NotDialed = 1
rounds_of (Talked answers end) = length answers + asks_in end

abbrev pub rounds_in : List Turn → ℕ
rounds_in [] = 0
rounds_in (turn ∷ turns) = rounds_of turn + rounds_in turns

-- how often a dial or a link failed
abbrev pub fails_of : Turn → ℕ
fails_of NotDialed = 1
fails_of (Talked answers end) = fails_in end

abbrev pub fails : List Turn → ℕ
fails [] = 0
fails (turn ∷ turns) = fails_of turn + fails turns

-- the texts that were taken, in order
abbrev pub texts_of : Turn → List (List ℕ)
texts_of NotDialed = []
texts_of (Talked answers end) = bodies answers

abbrev pub texts_in : List Turn → List (List ℕ)
texts_in [] = []
texts_in (turn ∷ turns) = texts_of turn ++ texts_in turns

-- the bytes that were written, where they are told
abbrev pub IsWritten : Option (List ℕ) → List ℕ → Type 0
IsWritten None written = Unit {0}
IsWritten (Some told) written = told ≡ written

-- what was read of a link and written on it is a talk from this place on
pub record IsTalkWritten (place : ℕ) (link : LinkState) (answers : List Answer) (end : LinkEnd) : Type 0 where
  pub read : List ℕ
  pub written : List ℕ
  pub reads : Takes link.came link.input.left read
  pub writes : IsWritten link.output.taken written
  pub talk : IsTalk place read written answers end

-- the links are those of the turns, in order, each from the place after the texts before
abbrev pub AreTold : ℕ → List Turn → List LinkState → Type 0
AreTold place [] [] = Unit {0}
AreTold place [] (l ∷ links) = ⊥
AreTold place (NotDialed ∷ turns) links = AreTold place turns links
AreTold place (Talked answers end ∷ turns) [] = ⊥
AreTold place (Talked answers end ∷ turns) (l ∷ links) =
    IsTalkWritten place l answers end × AreTold (place + length answers) turns links

-- a turn behind which the next round dials: the dial failed, or the link closed or failed
abbrev pub IsGivenUp : Turn → Type 0
IsGivenUp NotDialed = Unit {0}
IsGivenUp (Talked answers link.Closed) = Unit {0}
IsGivenUp (Talked answers link.Failed) = Unit {0}
IsGivenUp (Talked answers _) = ⊥

-- why a run stops with a link that was left so, where it does
abbrev pub stop_with : LinkEnd → Option Stop
stop_with link.Closed = None
stop_with link.Failed = None
stop_with link.Spent = Some Spent
stop_with link.Ended = Some Ended
stop_with link.Bad = Some Bad
stop_with link.OutOfMemory = Some OutOfMemory

-- a turn with which a run stops
abbrev pub IsLast : Turn → Stop → Type 0
IsLast NotDialed stop = ⊥
IsLast (Talked answers end) stop = stop_with end ≡ Some stop

-- why no further turn was made: none is left, or memory lacked before the first
abbrev pub StopsBehind : Stop → Type 0
StopsBehind Spent = Unit {0}
StopsBehind OutOfMemory = Unit {0}
StopsBehind _ = ⊥

-- each turn but the last is given up, and the run stopped with the last or behind it
abbrev pub EndsAs : List Turn → Stop → Type 0
EndsAs [] stop = StopsBehind stop
EndsAs (turn ∷ turns) stop = (IsGivenUp turn × EndsAs turns stop) ⊎ ((turns ≡ []) × IsLast turn stop)

-- a count has risen by so much, or stands at its type's end
abbrev pub RoseBy : ℕ → ℕ → ℕ → Type 0
RoseBy much before now = min (before + much) (2 ^ 64 - 1) ≤ now

-- The turns of a run of at most so many rounds, and the links that were returned.
pub record Courses (first last : DialerState) (old new : Reading) (rounds : ℕ) (stop : Stop) : Type 0 where
  pub turns : List Turn
  pub links : List LinkState
  pub told : AreTold (place_of old) turns links
  pub returned : last.links ≡ option_map (λ before. before ++ links) first.links
  pub ends : EndsAs turns stop
  pub within : rounds_in turns ≤ rounds
  pub spent : stop ≡ Spent → rounds_in turns ≡ rounds
  pub rose : RoseBy (fails turns) first.faults last.faults
  pub follower : new ≡ after_all old (texts_in turns)
  -- each text that was taken makes the place one more
  pub place : place_of new ≡ place_of old + length (texts_in turns)
