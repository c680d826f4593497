-- The readings of the lines of a script are those that the clock has ahead, one after another.
use Rattle.std.proofs.Common.{ℕ, ℤ, ◌≡◌, List, [], ◌∷◌, Option, None, Some, ap, sym, ◌∙◌, subst}
use Rattle.desk_traits.specs.Clocks.{Ticks}
use Rattle.desk_traits.specs.declared.clocks.Clock.{Ghosts as Clocks}
use Rattle.desk_traits.specs.declared.disk.Disk.{Ghosts as Disks}
use Rattle.office_journal.specs.declared.kept.KeptOffice.{KeptOffice}
use Rattle.program_ends.specs.Lines.{fit}
use Rattle.desk_commands.specs.Scripts.{AnswersLine, Goes, HasReading, HaveReadings, IsRead, Said, Scripted, ahead_after}

abbrev Ticked : List ℤ → Option (List ℤ) → Option ℤ → Type 0
Ticked ahead after reading = HasReading ahead reading × (after ≡ Some (ahead_after ahead reading))

ticked : (ahead : List ℤ) (after : Option (List ℤ)) (reading : ℤ) → Ticks (Some ahead) after reading → Ticked ahead after (Some reading)
ticked [] after reading ticks = absurd ticks
ticked (only ∷ []) after reading ticks = ticks
ticked (first ∷ second ∷ more) after reading ticks = ticks

module _ {D C : Type 0} (d : Disks D) (k : Clocks C) where
  read_on : (ahead : List ℤ) (clock next : C) (w : Option ℤ) (reading : ℤ) → k.ahead clock ≡ Some ahead → w ≡ Some reading → IsRead k clock next reading → Ticked ahead (k.ahead next) w
  read_on ahead clock next w reading told is read =
      subst (λ (o : Option ℤ). Ticked ahead (k.ahead next) o) (sym is) (ticked ahead (k.ahead next) reading (subst (λ (o : Option (List ℤ)). Ticks o (k.ahead next) reading) told read.ticks))

  line_read : (ahead : List ℤ) (s : Scripted (KeptOffice D d) C) (line : Option (List ℕ)) (w : Said) (next : Scripted (KeptOffice D d) C) → k.ahead s.clock ≡ Some ahead → AnswersLine d k s line w next → Ticked ahead (k.ahead next.clock) w.reading
  line_read ahead s None w next told is = read_on ahead s.clock next.clock w.reading is.0 told is.1 is.2
  line_read ahead s (Some []) w next told is =
      subst (λ (o : Option ℤ). Ticked ahead (k.ahead next.clock) o) (sym is.2) (tt, ap (λ (x : Scripted (KeptOffice D d) C). k.ahead x.clock) is.1 ∙ told)
  line_read ahead s (Some (c ∷ line)) w next told is = read_on ahead s.clock next.clock w.reading is.0 told is.1 is.2

  pub lines_read : (ahead : List ℤ) (s z : Scripted (KeptOffice D d) C) (lines : List (List ℕ)) (said : List Said) → k.ahead s.clock ≡ Some ahead → Goes d k s lines said z → HaveReadings ahead said
  lines_read ahead s z lines [] told goes = tt
  lines_read ahead s z [] (w ∷ said) told goes = absurd goes
  lines_read ahead s z (line ∷ lines) (w ∷ said) told goes =
      let one = line_read ahead s (fit line) w goes.0 told goes.1 in
      (one.0, lines_read (ahead_after ahead w.reading) goes.0 z lines said one.1 goes.2)
