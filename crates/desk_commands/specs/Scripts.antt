-- What the lines of a script are answered, and how the kept office grows by them.
use Rattle.std.specs.Prelude.{◌≡◌, ◌⊎◌, ◌++◌, ◌+◌, ◌≤◌, ℕ, ℤ, List, [], ◌∷◌, Option, None, Some, Result, Ok, Err}
use Rattle.desk_traits.specs.Clocks.{GivesTheSame, Ticks}
use Rattle.desk_traits.specs.declared.clocks.Clock.{Ghosts as Clocks}
use Rattle.desk_traits.specs.declared.disk.Disk.{Ghosts as Disks}
use Rattle.office_types.specs.declared.refusal.Refusal.{Refusal}
use Rattle.office_types.specs.declared.refusal.Refusal.TheVariants.{LineTooLong}
use Rattle.office_types.specs.declared.request.Reply.{Reply}
use Rattle.request_json.specs.Form.{asked_of}
use Rattle.request_json.specs.Replies.{disk_fault_text, out_of_memory_text, reply_text}
use Rattle.request_json.specs.declared.asked.Asked.{Asked}
use Rattle.office_core.specs.Histories.{Entered}
use Rattle.office_core.specs.Step.{Refuses, Repeats}
use Rattle.office_journal.specs.Changes.{Change}
use Rattle.office_journal.specs.Given.{Gave, Gives, entries_given}
use Rattle.office_journal.specs.Grown.{Stood}
use Rattle.office_journal.specs.Kept.{disk_of, state_of}
use Rattle.office_journal.specs.Outcomes.{AtAnyMoment, Becomes}
use Rattle.office_journal.specs.Submitting.{IsOffered}
use Rattle.office_journal.specs.declared.answers.Answer.{Answer}
use Rattle.office_journal.specs.declared.answers.Answer.TheVariants.{Accepted, Repeated, Refused, DiskFault, OutOfMemory}
use Rattle.office_journal.specs.declared.kept.KeptOffice.{KeptOffice}
use Rattle.program_ends.specs.Lines.{fit}
use Rattle.desk_commands.specs.Lines.{ended, refusal_line}

-- an office whose journal stands on a disk, and the clock by which its lines are judged
pub record Scripted (K C : Type 0) : Type 0 where
  pub kept : K
  pub clock : C

-- what came of a line: the text of its answer, the reading at which it was judged, unless it is empty, and what it gave to the disk
pub record Said : Type 0 where
  pub text : List ℕ
  pub reading : Option ℤ
  pub gave : Gave

-- all that is told
abbrev pub texts_in : List Said → List ℕ
texts_in [] = []
texts_in (w ∷ said) = w.text ++ texts_in said

-- what lines gave to the disk, in order
abbrev pub given_by : List Said → List Gave
given_by [] = []
given_by (w ∷ said) = w.gave ∷ given_by said

-- the entries that they added
abbrev pub entries_in : List Said → List Entered
entries_in said = entries_given (given_by said)

abbrev pub one_if_failed : Gave → ℕ
one_if_failed Gave.nothing = 0
one_if_failed (Gave.added change) = 0
one_if_failed (Gave.faulted change) = 1

-- how many lines were answered that the disk failed
abbrev pub faults_in : List Said → ℕ
faults_in [] = 0
faults_in (w ∷ said) = one_if_failed w.gave + faults_in said

-- the reading of a line is the next of those ahead
abbrev pub HasReading : List ℤ → Option ℤ → Type 0
HasReading ahead None = Unit {0}
HasReading [] (Some reading) = ⊥
HasReading (next ∷ more) (Some reading) = reading ≡ next

-- which is taken away, unless it is the last
abbrev pub ahead_after : List ℤ → Option ℤ → List ℤ
ahead_after ahead None = ahead
ahead_after [] (Some reading) = []
ahead_after (last ∷ []) (Some reading) = last ∷ []
ahead_after (next ∷ second ∷ more) (Some reading) = second ∷ more

-- these lines had these readings, where those are ahead: the first that is not empty has the first, the next one the next, and those beyond the last have the last
abbrev pub HaveReadings : List ℤ → List Said → Type 0
HaveReadings ahead [] = Unit {0}
HaveReadings ahead (w ∷ said) = HasReading ahead w.reading × HaveReadings (ahead_after ahead w.reading) said

-- the line of an answer
abbrev pub answer_line : Answer → List ℕ
answer_line (Accepted text) = ended text
answer_line (Repeated text) = ended text
answer_line (Refused x) = refusal_line x
answer_line DiskFault = ended disk_fault_text
answer_line OutOfMemory = ended out_of_memory_text

-- what a line asks: nothing that is known where it is too long
abbrev pub line_asks : Option (List ℕ) → Result Asked Refusal
line_asks None = Err LineTooLong
line_asks (Some line) = asked_of line

-- the clock was asked once, and gave this reading
pub record IsRead {C : Type 0} (k : Clocks C) (clock next : C) (reading : ℤ) : Type 0 where
  pub given : k.gives clock reading
  pub same : GivesTheSame (k.gives clock) (k.gives next)
  pub ticks : Ticks (k.ahead clock) (k.ahead next) reading

module _ {D : Type 0} (d : Disks D) where
  -- what becomes of the request of a desk at a reading
  abbrev pub Submits : Asked → ℤ → KeptOffice D d → KeptOffice D d → Answer → Type 0
  Submits a reading kept next answer =
      Becomes d.seen d.crash d.faults kept next (IsOffered (state_of kept) a.desk a.seq a.request reading)
      (λ text. (reply : Reply) × Repeats (state_of kept) a.desk a.seq a.request reply × (text ≡ reply_text reply)) (Refuses (state_of kept) a.desk a.seq a.request reading) answer

  -- what it gives to the disk: its entry, where it is accepted or the disk fails
  abbrev pub gave_in : (a : Asked) (reading : ℤ) (kept next : KeptOffice D d) (answer : Answer) → Submits a reading kept next answer → Gave
  gave_in a reading kept next (Accepted text) becomes = Gave.added (Change.entry becomes.0)
  gave_in a reading kept next (Repeated text) becomes = Gave.nothing
  gave_in a reading kept next (Refused x) becomes = Gave.nothing
  gave_in a reading kept next DiskFault becomes = Gave.faulted (Change.entry becomes.0)
  gave_in a reading kept next OutOfMemory becomes = Gave.nothing

  -- The request was submitted; its answer is told, and this was given to the disk. A crash at any moment of it leaves the history that the journal stands for, or that with one change, which was pending or is what it gave.
  pub record IsJudged (a : Asked) (reading : ℤ) (kept : KeptOffice D d) (text : List ℕ) (next : KeptOffice D d) (gave : Gave) : Type 0 where
    pub answer : Answer
    pub becomes : Submits a reading kept next answer
    pub told : text ≡ answer_line answer
    pub given : gave ≡ gave_in a reading kept next answer becomes
    pub later : d.faults (disk_of kept) ≤ d.faults (disk_of next)
    pub moments : AtAnyMoment d.seen d.crash kept next (Gives gave)

  -- what is no request gets its fault
  abbrev pub AnswersAsked : ℤ → KeptOffice D d → Result Asked Refusal → List ℕ → KeptOffice D d → Gave → Type 0
  AnswersAsked reading kept (Err x) text next gave = (text ≡ refusal_line x) × (next ≡ kept) × (gave ≡ Gave.nothing)
  AnswersAsked reading kept (Ok a) text next gave = IsJudged a reading kept text next gave

  -- memory lacked before the request was judged, or for the text of its fault
  abbrev pub LacksMemory : KeptOffice D d → List ℕ → KeptOffice D d → Gave → Type 0
  LacksMemory kept text next gave = (text ≡ ended out_of_memory_text) × (next ≡ kept) × (gave ≡ Gave.nothing)

  module _ {C : Type 0} (k : Clocks C) where
    -- a line is judged at a reading of its own, and may add an entry; an empty line gets no answer and no reading
    abbrev pub AnswersLine : Scripted (KeptOffice D d) C → Option (List ℕ) → Said → Scripted (KeptOffice D d) C → Type 0
    AnswersLine s (Some []) w next = (w.text ≡ []) × (next ≡ s) × (w.reading ≡ None) × (w.gave ≡ Gave.nothing)
    AnswersLine s line w next = (reading : ℤ) × (w.reading ≡ Some reading) × IsRead k s.clock next.clock reading
        × (AnswersAsked reading s.kept (line_asks line) w.text next.kept w.gave ⊎ LacksMemory s.kept w.text next.kept w.gave)

    abbrev pub Answers : Scripted (KeptOffice D d) C → Option (List ℕ) → List ℕ → Scripted (KeptOffice D d) C → Type 0
    Answers s line text next = (w : Said) × (text ≡ w.text) × AnswersLine s line w next

    -- the lines are answered one after another, and this came of each
    abbrev pub Goes : Scripted (KeptOffice D d) C → List (List ℕ) → List Said → Scripted (KeptOffice D d) C → Type 0
    Goes s [] [] z = z ≡ s
    Goes s (line ∷ lines) (w ∷ said) z = (next : Scripted (KeptOffice D d) C) × AnswersLine s (fit line) w next × Goes next lines said z
    Goes s _ _ z = ⊥

    -- the disk as each of these lines had been answered, and what had been given to it then
    abbrev pub stood_in : List Gave → (s : Scripted (KeptOffice D d) C) (lines : List (List ℕ)) (said : List Said) (z : Scripted (KeptOffice D d) C) → Goes s lines said z → List (Stood D)
    stood_in held s [] [] z goes = []
    stood_in held s (line ∷ lines) (w ∷ said) z goes =
        let held' = held ++ w.gave ∷ [] in record { held = held'; disk = disk_of goes.0.kept } ∷ stood_in held' goes.0 lines said z goes.2
    stood_in held s _ _ z goes = []
