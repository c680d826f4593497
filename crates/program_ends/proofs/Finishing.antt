-- A run over lines whose end was told.
use Rattle.std.proofs.Common.{ℕ, ◌≡◌, ◌≢◌, List, [], ◌∷◌, ◌++◌, Option, Some, Result, Ok, Err, IsErrOf, refl, ap, sym, subst, ◌∙◌, ◌⊎◌, inl, inr, rules, arith}
use Rattle.std.proofs.lemmas.Bool.Decides.{eqb_tells}
use Rattle.desk_traits.specs.Faults.{Rose}
use Rattle.byte_streams.specs.Flows.{Adds, Outflow, Streams, outflow, streams}
use Rattle.byte_streams.proofs.Pieces.{adds_both}
use Rattle.program_ends.specs.declared.ends.End.{End}
use Rattle.program_ends.specs.declared.ends.End.TheVariants.{ReadFault, WriteFault}
use Rattle.program_ends.specs.declared.reading.Stop.{Stop}
use Rattle.program_ends.specs.declared.reading.Stop.TheVariants as stop
use Rattle.program_ends.specs.Ends.{own_line, own_status, Begins, HasWritten, IsCut, Telling}
use Rattle.program_ends.specs.Runs.{Breaks, IsBroken, IsLinesRun, end_in, end_of}
use Rattle.program_ends.specs.Steps.{Runs, IsCauseOf}
use Rattle.program_ends.proofs.Answering.{adds_none}
use Rattle.program_ends.proofs.Telling.{begins_self}

is_read : {T : Type 0} (r : Result T Stop) → IsErrOf r stop.Read → end_in r ≡ Some ReadFault
is_read (Ok x) h = absurd (cc)
is_read (Err stop.Read) h = refl
is_read (Err stop.Write) h = absurd (cc)
is_read (Err stop.TooLong) h = absurd (cc)
is_read (Err stop.OutOfMemory) h = absurd (cc)

read_is : {T : Type 0} (r : Result T Stop) → end_in r ≡ Some ReadFault → IsErrOf r stop.Read
read_is (Ok x) h = absurd (cc)
read_is (Err stop.Read) h = refl
read_is (Err stop.Write) h = absurd (cc)
read_is (Err stop.TooLong) h = absurd (cc)
read_is (Err stop.OutOfMemory) h = absurd (cc)

is_write : {T : Type 0} (r : Result T Stop) → IsErrOf r stop.Write → end_in r ≡ Some WriteFault
is_write (Ok x) h = absurd (cc)
is_write (Err stop.Read) h = absurd (cc)
is_write (Err stop.Write) h = refl
is_write (Err stop.TooLong) h = absurd (cc)
is_write (Err stop.OutOfMemory) h = absurd (cc)

write_is : {T : Type 0} (r : Result T Stop) → end_in r ≡ Some WriteFault → IsErrOf r stop.Write
write_is (Ok x) h = absurd (cc)
write_is (Err stop.Read) h = absurd (cc)
write_is (Err stop.Write) h = refl
write_is (Err stop.TooLong) h = absurd (cc)
write_is (Err stop.OutOfMemory) h = absurd (cc)

no_read : {T : Type 0} (r : Result T Stop) → 12 ≡ own_status (end_in r) → end_in r ≢ Some ReadFault
no_read (Ok x) h e = absurd (cc)
no_read (Err stop.Read) h e = omega (arith, h)
no_read (Err stop.Write) h e = absurd (cc)
no_read (Err stop.TooLong) h e = absurd (cc)
no_read (Err stop.OutOfMemory) h e = absurd (cc)

is_seven : {T : Type 0} (r : Result T Stop) → 7 ≡ own_status (end_in r) → IsErrOf r stop.Read
is_seven (Ok x) h = absurd (omega (arith, h))
is_seven (Err stop.Read) h = refl
is_seven (Err stop.Write) h = absurd (omega (arith, h))
is_seven (Err stop.TooLong) h = absurd (omega (arith, h))
is_seven (Err stop.OutOfMemory) h = absurd (omega (arith, h))

ends_so : {T : Type 0} (r : Result T Stop) (status : ℕ) → status ≢ 8 → status ≡ own_status (end_in r) → (IsErrOf r stop.Read → ⊥) → (status ≡ 0) ⊎ (status ≡ 12) ⊎ (status ≡ 13)
ends_so (Ok x) status not_8 own never = search rules
ends_so (Err stop.Read) status not_8 own never = absurd (never refl)
ends_so (Err stop.Write) status not_8 own never = absurd (not_8 own)
ends_so (Err stop.TooLong) status not_8 own never = search rules
ends_so (Err stop.OutOfMemory) status not_8 own never = search rules

no_front : (front rest : List ℕ) → [] ≡ front ++ rest → front ≡ []
no_front [] rest e = refl
no_front (c ∷ front) rest e = absurd (cc)

is_eight : (end : Option End) (status : ℕ) → end ≡ Some WriteFault → (status ≢ 8 → status ≡ own_status end) → status ≡ 8
is_eight end status e own = elim (eqb_tells status 8) [
  | inl h ↦ h.1
  | inr h ↦ own h.1 ∙ ap own_status e
]

-- what the end of a run is told, over all that was written before
abbrev pub Tells : Outflow → Outflow → Option End → ℕ → Type 0
Tells mid after end status = (begun : Outflow) (defined written : List ℕ) → HasWritten defined written begun mid end → Telling defined begun after end status

module _ (begun mid after : Outflow) (end : Option End) (status : ℕ) (tells : Tells mid after end status) (e : end ≡ Some WriteFault) (rose : Rose begun.faults mid.faults) where
  -- behind all that was written before
  nothing : Telling [] (outflow mid.taken begun.faults) after end status
  nothing = tells (outflow mid.taken begun.faults) [] [] (record { adds = adds_none mid.taken; whole = λ no. absurd (no e); cut = λ _. (rose, begins_self []) })

  cut : IsCut ([] ++ own_line end) nothing.written begun.faults after.faults
  cut = (nothing.told.cut (is_eight end status e (λ no. (nothing.told.others no).0))).1

  -- the line of the write fault alone, or a front of it
  alone : nothing.written ≡ cut.line
  alone =
      let none : own_line end ≡ [] = ap own_line e in
      cut.parts ∙ ap (λ (l : List ℕ). l ++ cut.line) (no_front cut.front cut.some.0 (sym none ∙ cut.some.1))

  pub broken_by : {A : Type 0} (answers : A → Option (List ℕ) → List ℕ → A → Type 0) (a z : A) (lines : List (List ℕ)) (told written : List ℕ) → Adds begun.taken mid.taken written → Breaks answers a z lines told written → IsBroken answers a z lines told begun after
  broken_by answers a z lines told written adds breaks = record {
    written = written;
    fault = cut.line;
    breaks = breaks;
    begins = cut.told;
    once = cut.once;
    adds = adds_both _ _ _ _ _ _ adds nothing.adds (ap (λ (l : List ℕ). written ++ l) alone);
  }

-- what a run has written when it ends, well or for a reason
pub has_written : {T : Type 0} (r : Result T Stop) (told written : List ℕ) (before mid : Outflow) → Adds before.taken mid.taken written → Begins written told → ((IsErrOf r stop.Write → ⊥) → written ≡ told)
    → IsCauseOf stop.Write before.faults mid.faults r → HasWritten told written before mid (end_in r)
has_written r told written before mid adds begins whole cause = record {
  adds = adds;
  whole = λ no. (cause.steady (λ is. no (is_write r is)), whole (λ is. no (is_write r is)));
  cut = λ e. (cause.rose (write_is r e), begins);
}

-- how it is told that a run ended for this reason
pub told_by : (why : Stop) (end : End) (text written : List ℕ) (before mid after : Outflow) (status : ℕ) → HasWritten text written before mid (Some (end_of why)) → end ≡ end_of why → Tells mid after (Some end) status
    → Telling text before after (Some (end_of why)) status
told_by why end text written before mid after status has is tells = subst (λ (e : End). Tells mid after (Some e) status) is tells before text written has

-- a status is that of a write fault, or not
pub eight : (status : ℕ) → (status ≡ 8) ⊎ (status ≢ 8)
eight status = elim (eqb_tells status 8) [ inl h ↦ inl h.1 | inr h ↦ inr h.1 ]

-- but for a write fault a run has no other status than its own
pub no_other : (status own k : ℕ) → (status ≢ 8 → status ≡ own) → own ≢ k → k ≢ 8 → status ≡ k → ⊥
no_other status own k told p q e = p (sym (told (λ h. q (sym e ∙ h))) ∙ e)

module _ {A T : Type 0} (answers : A → Option (List ℕ) → List ℕ → A → Type 0) (lacks : A → Option (List ℕ) → A → Type 0) (limit : ℕ) (a z : A) (before after : Streams) (mid : Outflow) (r : Result T Stop) (status : ℕ) where
  pub run_told : Runs answers lacks limit a z before (streams after.input mid) r → IsCauseOf stop.Read before.input.faults after.input.faults r
      → IsCauseOf stop.Write before.output.faults mid.faults r → Tells mid after.output (end_in r) status
      → IsLinesRun answers lacks limit a z before after status
  run_told run cause writing tells =
      let telling = tells before.output run.told run.written (has_written r run.told run.written before.output mid run.adds run.begins run.whole writing) in
      record {
        end = end_in r;
        told = run.told;
        run = run.run;
        telling = telling;
        broken = λ e.
            let is = write_is r e in
            broken_by before.output mid after.output (end_in r) status tells e (writing.rose is) answers a z run.run.lines run.told run.written run.adds (run.broken is);
        rose = λ e. cause.rose (read_is r e);
        steady = λ no. cause.steady (λ is. no (is_read r is));
        read_fault = λ e.
            let own = telling.told.others (λ q. omega (arith, e, q)) in
            let seven : 7 ≡ own_status (end_in r) = omega (arith, e, own.0) in
            cause.rose (is_seven r seven);
        write_fault = λ e. (telling.told.cut e).0;
        complete = λ no_read no_write.
            let not_8 : status ≢ 8 = λ e. no_write (telling.told.cut e).0 in
            ends_so r status not_8 (telling.told.others not_8).0 (λ is. no_read (cause.rose is));
        no_memory = λ e.
            let own = telling.told.others (λ q. omega (arith, e, q)) in
            let twelve : 12 ≡ own_status (end_in r) = omega (arith, e, own.0) in
            (cause.steady (λ is. no_read r twelve (is_read r is)), own.1);
      }
