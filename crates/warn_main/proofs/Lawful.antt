-- The history of an office grows lawfully, whatever its disk tells.
use Rattle.std.proofs.Common.{ℕ, ℤ, ◌≡◌, ◌⊎◌, inl, inr, List, [], ◌∷◌, Option, None, Some, Result, Ok, Err, ap, sym, ◌∙◌, subst}
use Rattle.desk_traits.specs.declared.clocks.Clock.{Ghosts as Clocks}
use Rattle.desk_traits.specs.declared.disk.Disk.{Ghosts as Disks}
use Rattle.office_types.specs.declared.refusal.Refusal.{Refusal}
use Rattle.request_json.specs.declared.asked.Asked.{Asked}
use Rattle.office_core.specs.Agreement.{ReadsAsTheBoard}
use Rattle.office_core.specs.Histories.{StandOnce}
use Rattle.office_core.specs.Histories.{entries_of as requests_of}
use Rattle.office_core.specs.State.{State}
use Rattle.office_journal.specs.Given.{Gave, history_after, with_given}
use Rattle.office_journal.specs.Histories.{History, IsHistory}
use Rattle.office_journal.specs.Kept.{HasHistory, entries_of, gate_of, state_of}
use Rattle.office_journal.specs.Outcomes.{IsAsBefore}
use Rattle.office_journal.specs.declared.answers.Answer.{Answer}
use Rattle.office_journal.specs.declared.answers.Answer.TheVariants.{Accepted, Repeated, Refused, DiskFault, OutOfMemory}
use Rattle.office_journal.specs.declared.kept.KeptOffice.{KeptOffice}
use Rattle.program_ends.specs.Lines.{fit}
use Rattle.desk_commands.specs.Scripts.{AnswersAsked, AnswersLine, Goes, IsJudged, LacksMemory, Said, Scripted, Submits, gave_in, given_by, line_asks}

-- the office's law that requests stand once, of the histories of journals
abbrev pub RequestsStandOnce : Type 0
RequestsStandOnce = (file : List ℕ) (h : History) (s : State) → IsHistory file h s → StandOnce (requests_of h.entries)

module _ {D : Type 0} (d : Disks D) where
  -- the office is at the state of this history, and its texts read as its board
  abbrev pub Carries : KeptOffice D d → List ℕ → History → Type 0
  Carries kept file h = HasHistory kept file h × ReadsAsTheBoard (state_of kept)

  -- nothing was added
  same : (kept next : KeptOffice D d) (file : List ℕ) (h : History) → state_of next ≡ state_of kept → entries_of next ≡ entries_of kept → gate_of next ≡ gate_of kept
      → Carries kept file h → Carries next file h
  same kept next file h state entries gate carries = (
    record {
      history = subst (λ (s : State). IsHistory file h s) (sym state) carries.0.history;
      entries = entries ∙ carries.0.entries;
      gate = gate ∙ carries.0.gate;
    },
    subst ReadsAsTheBoard (sym state) carries.1,
  )

  as_before : (kept next : KeptOffice D d) (file : List ℕ) (h : History) → IsAsBefore d.seen d.crash kept next → Carries kept file h → Carries next file h
  as_before kept next file h is carries = same kept next file h is.state is.entries is.gate carries

  -- behind a line that gave this to the disk
  abbrev Behind : History → Gave → KeptOffice D d → List ℕ → Type 0
  Behind h gave next file = Carries next file (with_given h gave)

  module _ (kept next : KeptOffice D d) (file : List ℕ) (h : History) (carries : Carries kept file h) where
    judged_by : (a : Asked) (reading : ℤ) (answer : Answer) (becomes : Submits d a reading kept next answer) → Behind h (gave_in d a reading kept next answer becomes) next file
    judged_by a reading (Accepted text) becomes = (becomes.3.legal file h carries.0, becomes.3.reads)
    judged_by a reading (Repeated text) becomes = as_before kept next file h becomes.1 carries
    judged_by a reading (Refused x) becomes = as_before kept next file h becomes.1 carries
    judged_by a reading DiskFault becomes = same kept next file h becomes.2.state becomes.2.entries becomes.2.gate carries
    judged_by a reading OutOfMemory becomes = as_before kept next file h becomes carries

    judged : (a : Asked) (reading : ℤ) (text : List ℕ) (gave : Gave) → IsJudged d a reading kept text next gave → Behind h gave next file
    judged a reading text gave is = subst (λ (w : Gave). Behind h w next file) (sym is.given) (judged_by a reading is.answer is.becomes)

    -- the office was not asked
    unasked : (gave : Gave) → next ≡ kept → gave ≡ Gave.nothing → Behind h gave next file
    unasked gave is none =
        subst (λ (w : Gave). Behind h w next file) (sym none)
        (subst (λ (x : KeptOffice D d). Behind h Gave.nothing x file) (sym is) carries)

    asked : (reading : ℤ) (r : Result Asked Refusal) (text : List ℕ) (gave : Gave) → (AnswersAsked d reading kept r text next gave ⊎ LacksMemory d kept text next gave) → Behind h gave next file
    asked reading r text gave (inr lacks) = unasked gave lacks.1 lacks.2
    asked reading (Err x) text gave (inl is) = unasked gave is.1 is.2
    asked reading (Ok a) text gave (inl is) = judged a reading text gave is

  module _ {C : Type 0} (k : Clocks C) where
    line_goes : (s : Scripted (KeptOffice D d) C) (line : Option (List ℕ)) (w : Said) (next : Scripted (KeptOffice D d) C) (file : List ℕ) (h : History)
        → AnswersLine d k s line w next → Carries s.kept file h → Behind h w.gave next.kept file
    line_goes s None w next file h is carries = asked s.kept next.kept file h carries is.0 (line_asks None) w.text w.gave is.3
    line_goes s (Some []) w next file h is carries = unasked s.kept next.kept file h carries w.gave (ap (λ (x : Scripted (KeptOffice D d) C). x.kept) is.1) is.3
    line_goes s (Some (c ∷ line)) w next file h is carries = asked s.kept next.kept file h carries is.0 (line_asks (Some (c ∷ line))) w.text w.gave is.3

    pub lines_go : (s : Scripted (KeptOffice D d) C) (lines : List (List ℕ)) (said : List Said) (z : Scripted (KeptOffice D d) C) (file : List ℕ) (h : History)
        → Goes d k s lines said z → Carries s.kept file h → Carries z.kept file (history_after h (given_by said))
    lines_go s [] [] z file h goes carries =
        subst (λ (x : Scripted (KeptOffice D d) C). Carries x.kept file h) (sym goes) carries
    lines_go s [] (w ∷ said) z file h goes carries = absurd goes
    lines_go s (line ∷ lines) [] z file h goes carries = absurd goes
    lines_go s (line ∷ lines) (w ∷ said) z file h goes carries =
        lines_go goes.0 lines said z file (with_given h w.gave) goes.2 (line_goes s (fit line) w goes.0 file h goes.1 carries)
