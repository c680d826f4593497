-- The disk's count of faults while a script runs: it does not fall, and it rises for each line that is told that the disk failed.
use Rattle.std.proofs.Common.{ℕ, ℤ, ◌≡◌, ◌≤◌, ◌+◌, ◌-◌, ◌^◌, ◌⊎◌, min, inl, inr, List, [], ◌∷◌, Option, None, Some, Result, Ok, Err, refl, ap, sym, subst, arith}
use Rattle.desk_traits.specs.declared.clocks.Clock.{Ghosts as Clocks}
use Rattle.desk_traits.specs.declared.disk.Disk.{Ghosts as Disks}
use Rattle.office_types.specs.declared.refusal.Refusal.{Refusal}
use Rattle.request_json.specs.declared.asked.Asked.{Asked}
use Rattle.office_journal.specs.Given.{Gave}
use Rattle.office_journal.specs.Kept.{disk_of}
use Rattle.office_journal.specs.declared.answers.Answer.{Answer}
use Rattle.office_journal.specs.declared.answers.Answer.TheVariants.{Accepted, Repeated, Refused, DiskFault, OutOfMemory}
use Rattle.office_journal.specs.declared.kept.KeptOffice.{KeptOffice}
use Rattle.program_ends.specs.Lines.{fit}
use Rattle.desk_commands.specs.Scripts.{AnswersAsked, AnswersLine, Goes, LacksMemory, Said, Scripted, Submits, faults_in, gave_in, line_asks, one_if_failed}

pub record Rises (n before now : ℕ) : Type 0 where
  pub later : before ≤ now
  pub counted : min (before + n) (2 ^ 64 - 1) ≤ now

rises_both : (n m before mid now : ℕ) → Rises n before mid → Rises m mid now → Rises (n + m) before now
rises_both n m before mid now first second = record { later = omega (arith, first.later, second.later); counted = omega (arith, first.later, first.counted, second.later, second.counted) }

pub rises_on : (n start before now : ℕ) → before ≡ start → Rises n before now → Rises n start now
rises_on n start before now same rises = subst (λ (b : ℕ). Rises n b now) same rises

not_counted : (before now : ℕ) → before ≤ now → Rises 0 before now
not_counted before now later = record { later = later; counted = omega (arith, later) }

module _ {D C : Type 0} (d : Disks D) (k : Clocks C) where
  abbrev Counts : Gave → KeptOffice D d → KeptOffice D d → Type 0
  Counts gave kept next = Rises (one_if_failed gave) (d.faults (disk_of kept)) (d.faults (disk_of next))

  same_counts : (gave : Gave) (kept next : KeptOffice D d) → next ≡ kept → gave ≡ Gave.nothing → Counts gave kept next
  same_counts gave kept next same none =
      subst (λ (g : Gave). Counts g kept next) (sym none) (subst (λ (x : KeptOffice D d). Counts Gave.nothing kept x) (sym same) (not_counted (d.faults (disk_of kept)) (d.faults (disk_of kept)) (omega arith)))

  judged_counts : (a : Asked) (reading : ℤ) (kept next : KeptOffice D d) (answer : Answer) (becomes : Submits d a reading kept next answer) → d.faults (disk_of kept) ≤ d.faults (disk_of next) → Counts (gave_in d a reading kept next answer becomes) kept next
  judged_counts a reading kept next (Accepted text) becomes later = not_counted (d.faults (disk_of kept)) (d.faults (disk_of next)) later
  judged_counts a reading kept next (Repeated text) becomes later = not_counted (d.faults (disk_of kept)) (d.faults (disk_of next)) later
  judged_counts a reading kept next (Refused x) becomes later = not_counted (d.faults (disk_of kept)) (d.faults (disk_of next)) later
  judged_counts a reading kept next DiskFault becomes later = record { later = later; counted = becomes.2.cause }
  judged_counts a reading kept next OutOfMemory becomes later = not_counted (d.faults (disk_of kept)) (d.faults (disk_of next)) later

  asked_counts : (reading : ℤ) (kept : KeptOffice D d) (r : Result Asked Refusal) (text : List ℕ) (next : KeptOffice D d) (gave : Gave) → (AnswersAsked d reading kept r text next gave ⊎ LacksMemory d kept text next gave) → Counts gave kept next
  asked_counts reading kept r text next gave (inr lacks) = same_counts gave kept next lacks.1 lacks.2
  asked_counts reading kept (Err x) text next gave (inl is) = same_counts gave kept next is.1 is.2
  asked_counts reading kept (Ok a) text next gave (inl is) = subst (λ (g : Gave). Counts g kept next) (sym is.given) (judged_counts a reading kept next is.answer is.becomes is.later)

  line_counts : (s : Scripted (KeptOffice D d) C) (line : Option (List ℕ)) (w : Said) (next : Scripted (KeptOffice D d) C) → AnswersLine d k s line w next → Counts w.gave s.kept next.kept
  line_counts s None w next is = asked_counts is.0 s.kept (line_asks None) w.text next.kept w.gave is.3
  line_counts s (Some []) w next is = same_counts w.gave s.kept next.kept (ap (λ (x : Scripted (KeptOffice D d) C). x.kept) is.1) is.3
  line_counts s (Some (c ∷ line)) w next is = asked_counts is.0 s.kept (line_asks (Some (c ∷ line))) w.text next.kept w.gave is.3

  pub lines_count : (s z : Scripted (KeptOffice D d) C) (lines : List (List ℕ)) (said : List Said) → Goes d k s lines said z → Rises (faults_in said) (d.faults (disk_of s.kept)) (d.faults (disk_of z.kept))
  lines_count s z [] [] goes = same_counts Gave.nothing s.kept z.kept (ap (λ (x : Scripted (KeptOffice D d) C). x.kept) goes) refl
  lines_count s z [] (w ∷ said) goes = absurd goes
  lines_count s z (line ∷ lines) [] goes = absurd goes
  lines_count s z (line ∷ lines) (w ∷ said) goes =
      rises_both (one_if_failed w.gave) (faults_in said) (d.faults (disk_of s.kept)) (d.faults (disk_of goes.0.kept)) (d.faults (disk_of z.kept)) (line_counts s (fit line) w goes.0 goes.1) (lines_count goes.0 z lines said goes.2)
