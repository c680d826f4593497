-- What a drill tells.
use Rattle.std.specs.Prelude.{◌≡◌, ◌⊎◌, ℕ, List, [], Some}
use Rattle.byte_streams.specs.Flows.{Outflow}
use Rattle.office_core.specs.Agreement.{ReadsAsTheBoard, texts_of}
use Rattle.program_ends.specs.Ends.{Telling, TellsText}
use Rattle.program_ends.specs.declared.ends.End.TheVariants.{OutOfMemory}
use Rattle.desk_drill.specs.Office.{Drilled, LeadsTo, first_drilled}
use Rattle.desk_drill.specs.Requests.{requests}
use Rattle.desk_drill.specs.Tellings.{breaches_in, summary}

-- The text is the summary of the requests of this number and count, run through the office of a drill.
pub record IsSummary (number count : ℕ) (text : List ℕ) : Type 0 where
  -- the office at the end
  pub after : Drilled
  pub run : LeadsTo first_drilled (requests number count) after
  pub told : text ≡ summary after
  -- The requests lead to no other office.
  pub only : (other : Drilled) → LeadsTo first_drilled (requests number count) other → other ≡ after
  -- Whoever reads the texts finds lawful lives, numbers without gaps, and the office's board; so there are no breaches.
  pub read_back : ReadsAsTheBoard after.state
  pub unbroken : breaches_in (texts_of after.state) ≡ 0

-- The summary was written; or memory lacked, and that alone is told.
abbrev pub IsDrillRun : ℕ → ℕ → Outflow → Outflow → ℕ → Type 0
IsDrillRun number count before after status =
    ((text : List ℕ) × IsSummary number count text × TellsText text before after status)
    ⊎ Telling [] before after (Some OutOfMemory) status
