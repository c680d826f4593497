-- What a run of the program reads, answers and tells.
use Rattle.std.specs.Prelude.{◌≡◌, ◌⊎◌, ◌++◌, ℕ, IsNone, IsSome, MatchOption, List, [], ◌∷◌, Option, Some, Ok}
use Rattle.byte_streams.specs.Flows.{Streams}
use Rattle.desk_traits.specs.Faults.{Rose}
use Rattle.event_life.specs.Openings.{opened_of}
use Rattle.event_life.specs.Products.{Product}
use Rattle.std.specs.List.{AllByRecursion}
use Rattle.notice_json.specs.Form.{command_of}
use Rattle.notice_json.specs.declared.command.Command.{Command}
use Rattle.notice_json.specs.declared.refusal.NoticeRefusal.{NoticeRefusal}
use Rattle.program_ends.specs.Ends.{IsUsage}
use Rattle.program_ends.specs.Lines.{fit}
use Rattle.program_ends.specs.Runs.{Answered, IsLinesRun}
use Rattle.county_notices.specs.Answers.{AnswersLine, IsNoticed, LacksLine, refusal_line}
use Rattle.county_notices.specs.Apart.{AreMerged, IsOfDesk, desks_events}
use Rattle.county_notices.specs.Commands.{Noticed}
use Rattle.county_notices.specs.NoticeHistory.{first}
use Rattle.county_notices.specs.Reading.{IsHistory, Noted, ReadsAsNoted, products_read}
use Rattle.county_notices.specs.Words.{parse_issuer}
use Rattle.county_notices.specs.declared.issuer.Issuer.{Issuer}

-- ---- the notices among the answers

-- the line asks what an accepted command does, and is answered by its notice
pub record WritesNotice (s : Noticed) (line : Option (List ℕ)) (text : List ℕ) (notes : List Noted) (next : Noticed) : Type 0 where
  pub bytes : List ℕ
  pub command : Command
  pub given : line ≡ Some bytes
  pub asked : command_of bytes ≡ Ok command
  pub noticed : IsNoticed s command text next
  pub noted : notes ≡ record { command = command; text = text } ∷ []

-- the line is answered by nothing or by a refusal, and nothing changes
pub record WritesNone (s : Noticed) (line : Option (List ℕ)) (text : List ℕ) (notes : List Noted) (next : Noticed) : Type 0 where
  pub answered : AnswersLine s line text next
  pub quiet : (text ≡ []) ⊎ ((rule : NoticeRefusal) × (text ≡ refusal_line rule))
  pub unchanged : next ≡ s
  pub noted : notes ≡ []

abbrev pub Tells : Noticed → Option (List ℕ) → List ℕ → List Noted → Noticed → Type 0
Tells s line text notes next = WritesNotice s line text notes next ⊎ WritesNone s line text notes next

-- Lines are answered one after another: what is told for each, and the notices among it, in their order.
abbrev pub AreTold : Noticed → List (List ℕ) → List ℕ → List Noted → Noticed → Type 0
AreTold s [] told notes z = (told ≡ []) × (notes ≡ []) × (z ≡ s)
AreTold s (line ∷ lines) told notes z = (text : List ℕ) × (own : List Noted) × (next : Noticed) × (rest : List ℕ) × (more : List Noted) ×
    Tells s (fit line) text own next × (told ≡ text ++ rest) × (notes ≡ own ++ more) × AreTold next lines rest more z

-- ---- runs

-- A run over the lines of an input of at most this many bytes, by the office and its zone alone.
pub record IsNoticeRun (by : Issuer) (limit : ℕ) (before after : Streams) (status : ℕ) : Type 0 where
  -- what the notices leave at the end
  pub left : Noticed
  -- What was told are the notices and the refusals of the lines read, in order.
  pub run : IsLinesRun AnswersLine LacksLine limit (first by) left before after status
  -- No other answers to these lines are possible.
  pub only : (told : List ℕ) (last : Noticed) → Answered AnswersLine (first by) run.run.lines told last → (told ≡ run.told) × (last ≡ run.run.last)
  -- the notices among the answers, and the history that they are of
  pub notes : List Noted
  pub told : AreTold (first by) run.run.lines run.told notes run.run.last
  pub history : IsHistory (first by) notes run.run.last
  -- Whoever reads the notices finds lawful lives, the numbers that were handed in, and the rows of the history.
  pub read_back : ReadsAsNoted by.office notes run.run.last.rows
  -- Put in between the products of a desk, the notices leave the events that these open as they are.
  pub desks_numbers : (desk all : List Product) → AllByRecursion IsOfDesk desk
      → AreMerged desk (products_read by.office notes) all
      → desks_events (opened_of all) ≡ opened_of desk

-- What the words ask for was done: an office and a zone ask for notices, and other words for their usage.
pub record DoesAsAsked (words : List (List ℕ)) (limit : ℕ) (before after : Streams) (status : ℕ) : Type 0 where
  -- What was read and written, for each status.
  pub run : MatchOption (parse_issuer words) (IsUsage before after status) (λ by. IsNoticeRun by limit before after status)
  -- Other words alone end with 2.
  pub usage : status ≡ 2 → IsNone (parse_issuer words)
  -- A fault is told only where a count rose.
  pub read_fault : status ≡ 7 → Rose before.input.faults after.input.faults
  pub write_fault : status ≡ 8 → Rose before.output.faults after.output.faults
  -- Where no count rose, each line of an input within the limit is answered, or memory lacked, or the input is too long.
  pub complete : IsSome (parse_issuer words) → ¬ Rose before.input.faults after.input.faults → ¬ Rose before.output.faults after.output.faults → (status ≡ 0) ⊎ (status ≡ 12) ⊎ (status ≡ 13)
