-- What a run does as its words ask.
use Rattle.std.specs.Prelude.{◌≡◌, ◌≤◌, ◌⊎◌, ◌++◌, ◌+◌, ℕ, List, [], length, Option, Some, None}
use Rattle.byte_streams.specs.Flows.{Outflow}
use Rattle.hazard_types.specs.declared.line.Row.{Row}
use Rattle.desk_links.specs.Links.{DialerState}
use Rattle.event_life.specs.Products.{rows_of}
use Rattle.event_life.specs.Shown.{shown_at}
use Rattle.product_decoder.specs.ReaderModel.{Reading}
use Rattle.follow_core.specs.Hearing.{products_in}
use Rattle.follow_links.specs.Rounds.{Courses, texts_in, fails}
use Rattle.follow_links.specs.Telling.{IsToldAs, report, bad_line, spent_line, memory_line, usage_line}
use Rattle.follow_links.specs.Words.{asked_of}
use Rattle.follow_links.specs.declared.rounds.Stop.{Stop}
use Rattle.follow_links.specs.declared.rounds.Stop.TheVariants.{Spent, Ended, Bad, OutOfMemory}
use Rattle.follow_links.specs.declared.words.Asked.{Asked}

-- what is told where a run stopped so at a place, with these rows
abbrev pub text_of : Stop → ℕ → ℕ → List Row → List ℕ
text_of Spent place minute rows = report place minute rows ++ spent_line
text_of Ended place minute rows = report place minute rows
text_of Bad place minute rows = bad_line place
text_of OutOfMemory place minute rows = memory_line

abbrev pub status_of : Stop → ℕ
status_of Spent = 15
status_of Ended = 0
status_of Bad = 16
status_of OutOfMemory = 12

-- it is told, or that memory lacked for it
abbrev pub IsToldAt : Stop → ℕ → ℕ → List Row → Outflow → Outflow → ℕ → Type 0
IsToldAt stop place minute rows before after status =
    IsToldAs (text_of stop place minute rows) (status_of stop) before after status
    ⊎ IsToldAs memory_line 12 before after status

-- a follower of the office and class that has taken nothing
abbrev pub first_of : Asked → Reading
first_of asked = record { office = asked.office; class = asked.class; products = [] }

-- the rows that a reader of the texts shows
abbrev pub rows_shown : Asked → List (List ℕ) → List Row
rows_shown asked texts = shown_at asked.minute (rows_of (products_in asked.office asked.class texts))

-- The rounds that the words ask for, the links that were returned from them, and what was told.
pub record IsFollowed (asked : Asked) (first last : DialerState) (before after : Outflow) (status : ℕ) : Type 0 where
  pub stop : Stop
  pub follower : Reading
  pub course : Courses first last (first_of asked) follower asked.rounds stop
  -- the texts that were taken are as many as the place, and what is shown is what a reader of them
  -- shows
  pub ends : IsToldAt stop (length (texts_in course.turns)) asked.minute
      (rows_shown asked (texts_in course.turns)) before after status
  -- rounds are spent only by texts that were taken, and by dials and links that failed
  pub spent : stop ≡ Spent → asked.rounds ≤ length (texts_in course.turns) + fails course.turns

-- nothing was dialed
abbrev pub IsUndialed : DialerState → DialerState → Type 0
IsUndialed first last = (last.links ≡ first.links) × (last.faults ≡ first.faults)

-- what was asked for, by the words: other words dial nothing
abbrev pub FollowsAs : Option Asked → DialerState → DialerState → Outflow → Outflow → ℕ → Type 0
FollowsAs None first last before after status =
    IsUndialed first last × IsToldAs usage_line 2 before after status
FollowsAs (Some asked) first last before after status =
    IsFollowed asked first last before after status

abbrev pub Follows : List (List ℕ) → DialerState → DialerState → Outflow → Outflow → ℕ → Type 0
Follows words first last before after status =
    FollowsAs (asked_of words) first last before after status

-- memory lacked for the words: nothing was written
pub record IsUnbegun (before after : Outflow) (status : ℕ) : Type 0 where
  pub no_memory : status ≡ 12
  pub unwritten : after ≡ before

module _ {N D : Type 0} (dials : N → ℕ → D → N → Type 0) (state : D → DialerState) where
  -- what the words ask for, over a network: other words make no dialer, these one of their port
  abbrev pub FollowsOver : Option Asked → N → N → Outflow → Outflow → ℕ → Type 0
  FollowsOver None first last before after status =
      (last ≡ first) × IsToldAs usage_line 2 before after status
  FollowsOver (Some asked) first last before after status =
      (dialer dialer' : D) × dials first asked.port dialer last
      × IsFollowed asked (state dialer) (state dialer') before after status
