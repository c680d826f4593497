-- What comes of a line that is judged.
use Rattle.std.proofs.Common.{ℕ, ℤ, ◌==◌, length, ◌≡◌, ◌≤◌, ◌⊎◌, inl, inr, List, [], ◌∷◌, Bool, true, false, Option, None, Some, option_map, Bor, Result, Ok, Err, refl, ap, sym, ◌∙◌, subst}
use Rattle.std.proofs.lemmas.Bool.{eqb-true}
use Rattle.desk_traits.specs.declared.clocks.Clock.{Ghosts as Clocks}
use Rattle.desk_traits.specs.declared.disk.Disk.{Ghosts as Disks}
use Rattle.office_types.specs.declared.refusal.Refusal.{Refusal}
use Rattle.request_json.specs.Form.{asked_of}
use Rattle.request_json.specs.Replies.{out_of_memory_text}
use Rattle.request_json.specs.declared.asked.Asked.{Asked}
use Rattle.office_journal.specs.Given.{Gave, Gives}
use Rattle.office_journal.specs.Kept.{disk_of}
use Rattle.office_journal.specs.Outcomes.{AtAnyMoment}
use Rattle.office_journal.specs.declared.answers.Answer.{Answer}
use Rattle.office_journal.specs.declared.answers.Answer.TheVariants.{Accepted, DiskFault, OutOfMemory, Refused, Repeated}
use Rattle.office_journal.specs.declared.kept.KeptOffice.{KeptOffice}
use Rattle.desk_commands.specs.Lines.{ended, refusal_line}
use Rattle.desk_commands.specs.Scripts.{Answers, AnswersAsked, AnswersLine, IsJudged, IsRead, Said, Scripted, Submits, answer_line, gave_in, line_asks}

module _ {D : Type 0} (d : Disks D) (a : Asked) (reading : ℤ) (kept next : KeptOffice D d) where
  abbrev pub Told : List ℕ → Type 0
  Told text = (gave : Gave) × IsJudged d a reading kept text next gave

  -- a crash at any moment leaves what was there, or that with what the request gave
  at_moments : (answer : Answer) (becomes : Submits d a reading kept next answer) → AtAnyMoment d.seen d.crash kept next (Gives (gave_in d a reading kept next answer becomes))
  at_moments (Accepted text) becomes = becomes.3.moments
  at_moments (Repeated text) becomes = becomes.1.moments
  at_moments (Refused x) becomes = becomes.1.moments
  at_moments DiskFault becomes = becomes.2.moments
  at_moments OutOfMemory becomes = becomes.moments

  -- the line of the answer
  pub told : (answer : Answer) (text : List ℕ) → Submits d a reading kept next answer → text ≡ answer_line answer → d.faults (disk_of kept) ≤ d.faults (disk_of next) → Told text
  told answer text becomes is later =
      (gave_in d a reading kept next answer becomes, record { answer = answer; becomes = becomes; told = is; given = refl; later = later; moments = at_moments answer becomes })

  -- nothing has changed, so where memory lacks for the text of a refusal that is told
  pub told_or : (x : Refusal) (text : List ℕ) → Submits d a reading kept next (Refused x) → (text ≡ refusal_line x) ⊎ (text ≡ ended out_of_memory_text) → d.faults (disk_of kept) ≤ d.faults (disk_of next) → Told text
  told_or x text becomes (inl is) later = told (Refused x) text becomes is later
  told_or x text becomes (inr lack) later = told OutOfMemory text becomes.1 lack later

module _ {D C : Type 0} (d : Disks D) (k : Clocks C) where
  said : List ℕ → ℤ → Gave → Said
  said text reading gave = record { text = text; reading = Some reading; gave = gave }

  -- a request was judged
  judged_line : (bytes : List ℕ) (s next : Scripted (KeptOffice D d) C) (a : Asked) (reading : ℤ) (text : List ℕ) (gave : Gave) → (bytes ≡ [] → ⊥) → asked_of bytes ≡ Ok a → IsRead k s.clock next.clock reading
      → IsJudged d a reading s.kept text next.kept gave → AnswersLine d k s (Some bytes) (said text reading gave) next
  unfolding said
  judged_line [] s next a reading text gave some asked read is = absurd (some refl)
  judged_line (c ∷ line) s next a reading text gave some asked read is =
      (reading, refl, read, inl (subst (λ (r : Result Asked Refusal). AnswersAsked d reading s.kept r text next.kept gave) (sym asked) is))

  pub request_line : (line : Option (List ℕ)) (bytes : List ℕ) → line ≡ Some bytes → (s next : Scripted (KeptOffice D d) C) (a : Asked) (reading : ℤ) (text : List ℕ) → (bytes ≡ [] → ⊥) → asked_of bytes ≡ Ok a
      → IsRead k s.clock next.clock reading → Told d a reading s.kept next.kept text → Answers d k s line text next
  unfolding said
  request_line line bytes is s next a reading text some asked read judged =
      subst (λ (l : Option (List ℕ)). Answers d k s l text next) (sym is) (said text reading judged.0, refl, judged_line bytes s next a reading text judged.0 some asked read judged.1)

  faulty : (s next : Scripted (KeptOffice D d) C) (x : Refusal) (reading : ℤ) (text : List ℕ) (r : Result Asked Refusal) → r ≡ Err x → next.kept ≡ s.kept → (text ≡ refusal_line x) ⊎ (text ≡ ended out_of_memory_text)
      → AnswersAsked d reading s.kept r text next.kept Gave.nothing ⊎ ((text ≡ ended out_of_memory_text) × (next.kept ≡ s.kept) × (Gave.nothing ≡ Gave.nothing))
  faulty s next x reading text r is same (inl told) = inl (subst (λ (r : Result Asked Refusal). AnswersAsked d reading s.kept r text next.kept Gave.nothing) (sym is) (told, same, refl))
  faulty s next x reading text r is same (inr lacks) = inr (lacks, same, refl)

  -- a line that is no request gets its fault, or that memory lacks for it
  pub fault_line : (line : Option (List ℕ)) (s next : Scripted (KeptOffice D d) C) (x : Refusal) (reading : ℤ) (text : List ℕ) → (line ≡ Some [] → ⊥) → line_asks line ≡ Err x → IsRead k s.clock next.clock reading
      → next.kept ≡ s.kept → (text ≡ refusal_line x) ⊎ (text ≡ ended out_of_memory_text) → Answers d k s line text next
  unfolding said
  fault_line None s next x reading text some asked read same told = (said text reading Gave.nothing, refl, (reading, refl, read, faulty s next x reading text (line_asks None) asked same told))
  fault_line (Some []) s next x reading text some asked read same told = absurd (some refl)
  fault_line (Some (c ∷ line)) s next x reading text some asked read same told =
      (said text reading Gave.nothing, refl, (reading, refl, read, faulty s next x reading text (line_asks (Some (c ∷ line))) asked same told))

  pub refused_line : (line : Option (List ℕ)) (bytes : List ℕ) → line ≡ Some bytes → (s next : Scripted (KeptOffice D d) C) (x : Refusal) (reading : ℤ) (text : List ℕ) → (bytes ≡ [] → ⊥) → asked_of bytes ≡ Err x → IsRead k s.clock next.clock reading
      → next.kept ≡ s.kept → (text ≡ refusal_line x) ⊎ (text ≡ ended out_of_memory_text) → Answers d k s line text next
  refused_line line bytes is s next x reading text some asked read same told =
      fault_line line s next x reading text (λ e. some (same_bytes (sym is ∙ e))) (subst (λ (l : Option (List ℕ)). line_asks l ≡ Err x) (sym is) asked) read same told
    where
      same_bytes : Some bytes ≡ Some [] → bytes ≡ []
      same_bytes e = cc

  pub empty_line : (line : Option (List ℕ)) (bytes : List ℕ) → line ≡ Some bytes → (s : Scripted (KeptOffice D d) C) → bytes ≡ [] → Answers d k s line [] s
  empty_line line bytes is s none =
      subst (λ (l : Option (List ℕ)). Answers d k s l [] s) (sym (is ∙ ap Some none)) (record { text = []; reading = None; gave = Gave.nothing }, refl, (refl, refl, refl, refl))

  -- memory lacked before it was read
  pub lacking_line : (line : Option (List ℕ)) (bytes : List ℕ) → line ≡ Some bytes → (s next : Scripted (KeptOffice D d) C) (reading : ℤ) (text : List ℕ) → (bytes ≡ [] → ⊥) → IsRead k s.clock next.clock reading
      → next.kept ≡ s.kept → text ≡ ended out_of_memory_text → Answers d k s line text next
  unfolding said
  lacking_line line bytes is s next reading text some read same told = subst (λ (l : Option (List ℕ)). Answers d k s l text next) (sym is) (lacking bytes some)
    where
      lacking : (bytes : List ℕ) → (bytes ≡ [] → ⊥) → Answers d k s (Some bytes) text next
      lacking [] some = absurd (some refl)
      lacking (c ∷ line) some = (record { text = text; reading = Some reading; gave = Gave.nothing }, refl, (reading, refl, read, inr (told, same, refl)))

pub some_bytes : (bytes : List ℕ) (b : Bool) → b ≡ (length bytes == 0) → b ≡ false → bytes ≡ [] → ⊥
some_bytes [] b is none e = absurd (let f : true ≡ false = sym is ∙ none in cc)
some_bytes (c ∷ bytes) b is none e = absurd (cc)

pub no_bytes : (bytes : List ℕ) (b : Bool) → b ≡ (length bytes == 0) → b ≡ true → bytes ≡ []
no_bytes [] b is some = refl
no_bytes (c ∷ bytes) b is some = absurd (let e : length (c ∷ bytes) ≡ 0 = eqb-true (length (c ∷ bytes)) 0 (sym is ∙ some) in cc)

-- the bytes of a line, which is lent
pub now_of : {line other : Option (Bor (List ℕ))} → line ≡ other → option_map (λ (bytes : Bor (List ℕ)). bytes.now) line ≡ option_map (λ (bytes : Bor (List ℕ)). bytes.now) other
now_of is = ap (option_map (λ (bytes : Bor (List ℕ)). bytes.now)) is
