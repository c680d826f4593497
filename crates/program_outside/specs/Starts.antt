-- What a program does with the words that it was started with.
use Rattle.std.specs.Prelude.{
  ◌≡◌,
  ◌≢◌,
  ◌≤◌,
  ◌⊎◌,
  ℕ,
  List,
  Option,
  Result,
  IsOkAnd,
  Vec,
  String,
  length,
  take,
}
use Rattle.std.specs.declared.alloc.Global.{Global}
use Rattle.hazard_types.specs.declared.list.Oom.{Oom}
use Rattle.byte_streams.specs.Flows.{Adds, Outflow, Streams}
use Rattle.program_ends.specs.Ends.{IsUntouched}
use Rattle.program_ends.specs.Words.{words_after}

-- the words of a command line, or that memory lacked for them
abbrev pub Words : Type 0
Words = Result (Vec (String Global) Global) Oom

-- these are the words behind the first ones
abbrev pub words_given : Words → ℕ → List (List ℕ) → Type 0
words_given words skipped given = IsOkAnd words (λ read. given ≡ words_after skipped read.items)

-- Either memory lacked for the words, and the run is untouched, or it does what the words behind the
-- first ones ask for.
abbrev pub Starts : Words → ℕ → Type 0 → (List (List ℕ) → Type 0) → Type 0
Starts words skipped untouched does =
    untouched ⊎ IsOkAnd words (λ read. does (words_after skipped read.items))

-- The same of a run from an input to an output, with its status: the words are those behind the
-- program's name.
abbrev pub Runs : Words → (List (List ℕ) → Streams → Streams → ℕ → Type 0)
    → Streams → Streams → ℕ → Type 0
Runs words does before after status =
    Starts words 1 (IsUntouched before after status) (λ given. does given before after status)

-- With status 2 the usage, or a front of it, was shown; with another one nothing.
pub record IsUsageShown (usage : List ℕ) (status : ℕ) (shown shown' : Outflow) : Type 0 where
  pub usage_alone : status ≡ 2
      → (n : ℕ) × (n ≤ length usage) × Adds shown.taken shown'.taken (take n usage)
  pub others : status ≢ 2 → shown' ≡ shown
