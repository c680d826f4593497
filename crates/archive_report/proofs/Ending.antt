-- A whole run, once its end was told.
use Rattle.std.proofs.Common.{◌≡◌, ◌≢◌, ◌≤◌, ◌∙◌, ◌⊎◌, inl, inr, ℕ, List, ◌++◌, refl, ap, sym, append_assoc, arith, Option, Some, Result, Ok, Err, IfOk, IfErr, OnOk}
use Rattle.desk_traits.specs.Faults.{Rose}
use Rattle.byte_streams.specs.Flows.{Adds, Outflow, Streams, streams}
use Rattle.byte_streams.proofs.Pieces.{adds_both}
use Rattle.product_decoder.specs.Feeding.{products_in}
use Rattle.program_ends.specs.Ends.{own_line, own_status, Begins, Telling}
use Rattle.program_ends.specs.Runs.{end_of}
use Rattle.program_ends.specs.Steps.{IsCauseOf}
use Rattle.program_ends.specs.declared.ends.End.{End}
use Rattle.program_ends.specs.declared.reading.Stop.{Stop}
use Rattle.program_ends.specs.declared.reading.Stop.TheVariants as stop
use Rattle.program_ends.proofs.Finishing.{Tells, eight, has_written, no_other, told_by}
use Rattle.program_ends.proofs.Telling.{begins_self}
use Rattle.archive_report.specs.declared.tally.Tally.{Tally}
use Rattle.archive_report.specs.declared.words.Asked.{Asked}
use Rattle.archive_report.specs.Pieces.{WritesTo, ReadsAll, Reports, Halts, count_listed, rest_text}
use Rattle.archive_report.specs.Report.{report, listed}
use Rattle.archive_report.specs.Runs.{DoesAsAsked, IsArchiveRun, IsEndLine, lines_told}
use Rattle.archive_report.specs.Words.{asked_of}
use Rattle.archive_report.proofs.Fronts.{report_told, listed_told}

-- the rest of the report, behind the lines of the products
module _ (asked : Asked) (limit : ℕ) (tally : Tally) (before mid : Streams) (x : Unit {0}) (input : WritesTo asked limit before mid (ReadsAll asked tally) (Ok x)) where
  all : ReadsAll asked tally input.read input.text x
  all = input.ended.2

  lines_written : input.written ≡ lines_told asked (products_in input.read)
  lines_written = input.whole (λ e. absurd (cc)) ∙ all.1

  whole : input.written ++ rest_text asked tally ≡ report asked input.read
  whole = ap (λ (t : List ℕ). t ++ rest_text asked tally) lines_written ∙ report_told asked input.read tally all.0

  ends_reported : (n : ℕ) (after : Outflow) → Adds mid.output.taken after.taken (rest_text asked tally) → n ≡ count_listed tally → WritesTo asked limit before (streams mid.input after) (Reports asked) (Ok n)
  ends_reported n after adds n_is = record {
    read = input.read;
    text = report asked input.read;
    written = report asked input.read;
    takes = input.takes;
    adds = adds_both _ _ _ _ _ _ input.adds adds whole;
    within = input.within;
    ended = (input.ended.0, input.ended.1, (refl, n_is ∙ listed_told asked input.read tally all.0));
    read_fault = λ e. absurd (cc);
    too_long = λ e. absurd (cc);
    front = inr (input.ended.0, input.ended.1, begins_self (report asked input.read));
    begins = begins_self (report asked input.read);
    whole = λ _. refl;
  }

  no_read : (why : Stop) → ((why ≡ stop.OutOfMemory) ⊎ (why ≡ stop.Write)) → why ≡ stop.Read → ⊥
  no_read why (inl e) h = let same : stop.OutOfMemory ≡ stop.Read = sym e ∙ h in cc
  no_read why (inr e) h = let same : stop.Write ≡ stop.Read = sym e ∙ h in cc

  no_long : (why : Stop) → ((why ≡ stop.OutOfMemory) ⊎ (why ≡ stop.Write)) → why ≡ stop.TooLong → ⊥
  no_long why (inl e) h = let same : stop.OutOfMemory ≡ stop.TooLong = sym e ∙ h in cc
  no_long why (inr e) h = let same : stop.Write ≡ stop.TooLong = sym e ∙ h in cc

  ends_halted : (why : Stop) (after : Outflow) → Halts mid.output after (rest_text asked tally) why → WritesTo asked limit before (streams mid.input after) (Reports asked) (Err why)
  ends_halted why after halts =
      let text = input.written ++ halts.front.front in
      let begins : Begins text (report asked input.read) = (
        halts.front.begins.0,
        sym whole ∙ ap (λ (t : List ℕ). input.written ++ t) halts.front.begins.1 ∙ sym (append_assoc input.written halts.front.front halts.front.begins.0),
      ) in
      record {
        read = input.read;
        text = text;
        written = text;
        takes = input.takes;
        adds = adds_both _ _ _ _ _ _ input.adds halts.front.adds refl;
        within = input.within;
        ended = tt;
        read_fault = λ e. absurd (no_read why halts.reasons (reason why stop.Read e));
        too_long = λ e. absurd (no_long why halts.reasons (reason why stop.TooLong e));
        front = inr (input.ended.0, input.ended.1, begins);
        begins = begins_self text;
        whole = λ _. refl;
      }
    where
      reason : (a b : Stop) → ◌≡◌ {A = Result ℕ Stop} (Err a) (Err b) → a ≡ b
      reason a b e = cc

  pub ends_rest : (after : Outflow) (result : Result ℕ Stop) → OnOk result (Adds mid.output.taken after.taken (rest_text asked tally)) → IfOk result (λ n. n ≡ count_listed tally) → IfErr result (Halts mid.output after (rest_text asked tally))
      → WritesTo asked limit before (streams mid.input after) (Reports asked) result
  ends_rest after (Ok n) adds is halted = ends_reported n after adds is
  ends_rest after (Err why) adds is halted = ends_halted why after halted

module _ (asked : Asked) (limit : ℕ) (before after : Streams) where
  -- a run that told the whole report
  pub run_whole : (n status : ℕ) → WritesTo asked limit before after (Reports asked) (Ok n) → after.input.faults ≡ before.input.faults → after.output.faults ≡ before.output.faults
      → ((status ≡ 0) × (n ≡ 0)) ⊎ ((status ≡ 3) × (n ≢ 0)) → IsArchiveRun asked limit before after status
  run_whole n status t read_steady write_steady which =
      let done : Reports asked t.read t.text n = t.ended.2 in
      record {
        read = t.read;
        written = t.written;
        takes = t.takes;
        adds = t.adds;
        within = t.within;
        reported = λ _. (t.ended.0, t.ended.1, t.whole (λ e. absurd (cc)) ∙ done.0, (read_steady, write_steady));
        clean = λ e. nothing which e done.1;
        against = λ e. something which e done.1;
        read_fault = λ e. absurd (neither which 7 e (λ q. omega (arith, q)) (λ q. omega (arith, q)));
        too_long = λ e. absurd (neither which 13 e (λ q. omega (arith, q)) (λ q. omega (arith, q)));
        no_memory = λ e. absurd (neither which 12 e (λ q. omega (arith, q)) (λ q. omega (arith, q)));
        write_fault = λ e. absurd (neither which 8 e (λ q. omega (arith, q)) (λ q. omega (arith, q)));
        others = either which;
      }
    where
      neither : ((status ≡ 0) × (n ≡ 0)) ⊎ ((status ≡ 3) × (n ≢ 0)) → (k : ℕ) → status ≡ k → (0 ≡ k → ⊥) → (3 ≡ k → ⊥) → ⊥
      neither (inl h) k e p q = p (sym h.0 ∙ e)
      neither (inr h) k e p q = q (sym h.0 ∙ e)

      nothing : ((status ≡ 0) × (n ≡ 0)) ⊎ ((status ≡ 3) × (n ≢ 0)) → status ≡ 0 → n ≡ listed asked t.read → listed asked t.read ≡ 0
      nothing (inl h) e is = sym is ∙ h.1
      nothing (inr h) e is = absurd (omega (arith, h.0, e))

      something : ((status ≡ 0) × (n ≡ 0)) ⊎ ((status ≡ 3) × (n ≢ 0)) → status ≡ 3 → n ≡ listed asked t.read → listed asked t.read ≢ 0
      something (inl h) e is = absurd (omega (arith, h.0, e))
      something (inr h) e is = λ none. h.1 (is ∙ none)

      either : ((status ≡ 0) × (n ≡ 0)) ⊎ ((status ≡ 3) × (n ≢ 0)) → (status ≡ 0) ⊎ (status ≡ 3) ⊎ (status ≡ 7) ⊎ (status ≡ 8) ⊎ (status ≡ 12) ⊎ (status ≡ 13)
      either (inl h) = inl h.0
      either (inr h) = inr (inl h.0)

-- the reason of a run that ended early, where its own status was returned

pub was_read : (why : Stop) (status : ℕ) → (status ≢ 8 → status ≡ own_status (Some (end_of why))) → status ≡ 7 → why ≡ stop.Read
was_read stop.Read status own e = refl
was_read stop.Write status own e = absurd (no_other status 8 7 own (λ q. omega (arith, q)) (λ q. omega (arith, q)) e)
was_read stop.TooLong status own e = absurd (no_other status 13 7 own (λ q. omega (arith, q)) (λ q. omega (arith, q)) e)
was_read stop.OutOfMemory status own e = absurd (no_other status 12 7 own (λ q. omega (arith, q)) (λ q. omega (arith, q)) e)

pub was_long : (why : Stop) (status : ℕ) → (status ≢ 8 → status ≡ own_status (Some (end_of why))) → status ≡ 13 → why ≡ stop.TooLong
was_long stop.Read status own e = absurd (no_other status 7 13 own (λ q. omega (arith, q)) (λ q. omega (arith, q)) e)
was_long stop.Write status own e = absurd (no_other status 8 13 own (λ q. omega (arith, q)) (λ q. omega (arith, q)) e)
was_long stop.TooLong status own e = refl
was_long stop.OutOfMemory status own e = absurd (no_other status 12 13 own (λ q. omega (arith, q)) (λ q. omega (arith, q)) e)

pub was_memory : (why : Stop) (status : ℕ) → (status ≢ 8 → status ≡ own_status (Some (end_of why))) → status ≡ 12 → why ≡ stop.OutOfMemory
was_memory stop.Read status own e = absurd (no_other status 7 12 own (λ q. omega (arith, q)) (λ q. omega (arith, q)) e)
was_memory stop.Write status own e = absurd (no_other status 8 12 own (λ q. omega (arith, q)) (λ q. omega (arith, q)) e)
was_memory stop.TooLong status own e = absurd (no_other status 13 12 own (λ q. omega (arith, q)) (λ q. omega (arith, q)) e)
was_memory stop.OutOfMemory status own e = refl

own_fault : (why : Stop) (status : ℕ) → status ≡ own_status (Some (end_of why)) → (status ≡ 7) ⊎ (status ≡ 8) ⊎ (status ≡ 12) ⊎ (status ≡ 13)
own_fault stop.Read status h = inl h
own_fault stop.Write status h = inr (inl h)
own_fault stop.TooLong status h = inr (inr (inr h))
own_fault stop.OutOfMemory status h = inr (inr (inl h))

-- the statuses of a run that ended early
pub fault_status : (why : Stop) (status : ℕ) → (status ≢ 8 → status ≡ own_status (Some (end_of why))) → (status ≡ 7) ⊎ (status ≡ 8) ⊎ (status ≡ 12) ⊎ (status ≡ 13)
fault_status why status own = elim (eight status) [ inl h ↦ inr (inl h) | inr h ↦ own_fault why status (own h) ]

pub seven_on : (status : ℕ) → (status ≡ 7) ⊎ (status ≡ 8) ⊎ (status ≡ 12) ⊎ (status ≡ 13) → 7 ≤ status
seven_on status (inl h) = omega (arith, h)
seven_on status (inr (inl h)) = omega (arith, h)
seven_on status (inr (inr (inl h))) = omega (arith, h)
seven_on status (inr (inr (inr h))) = omega (arith, h)

-- what was told, with the line of the reason as it is known
pub line_of : (why k : Stop) (text written : List ℕ) → why ≡ k → written ≡ text ++ own_line (Some (end_of why)) → written ≡ text ++ own_line (Some (end_of k))
line_of why k text written is told = told ∙ ap (λ (s : Stop). text ++ own_line (Some (end_of s))) is

-- the input's count where no read failed
pub no_read_rose : {T : Type 0} (why k : Stop) (reads reads' : ℕ) → IsCauseOf {T = T} stop.Read reads reads' (Err why) → why ≡ k → (k ≡ stop.Read → ⊥) → reads' ≡ reads
no_read_rose {T} why k reads reads' cause is other = cause.steady (λ e. other (sym is ∙ same why stop.Read e))
  where
    same : (a b : Stop) → ◌≡◌ {A = Result T Stop} (Err a) (Err b) → a ≡ b
    same a b e = cc

end_line : (asked : Asked) (limit : ℕ) (before after : Streams) (why : Stop) (t : WritesTo asked limit before after (Reports asked) (Err why)) → IsCauseOf {T = ℕ} stop.Read before.input.faults after.input.faults (Err why)
    → IsEndLine limit t.read before.input.faults after.input.faults (own_line (Some (end_of why)))
end_line asked limit before after stop.Read t cause = inr (inl (refl, cause.rose refl, (t.read_fault refl).0))
end_line asked limit before after stop.Write t cause = inl (refl, cause.steady (λ e. absurd (cc)))
end_line asked limit before after stop.TooLong t cause = inr (inr (inl (refl, cause.steady (λ e. absurd (cc)), (t.too_long refl).0)))
end_line asked limit before after stop.OutOfMemory t cause = inr (inr (inr (refl, cause.steady (λ e. absurd (cc)))))

-- a run that ended early
module _ (asked : Asked) (limit : ℕ) (before after : Streams) (mid : Outflow) (status : ℕ) (why : Stop) (t : WritesTo asked limit before (streams after.input mid) (Reports asked) (Err why)) (cause : IsCauseOf {T = ℕ} stop.Read before.input.faults after.input.faults (Err why)) (telling : Telling t.text before.output after.output (Some (end_of why)) status) where
  own : status ≢ 8 → status ≡ own_status (Some (end_of why))
  own other = (telling.told.others other).0

  fault : (status ≡ 7) ⊎ (status ≡ 8) ⊎ (status ≡ 12) ⊎ (status ≡ 13)
  fault = fault_status why status own

  no_good : (status ≡ 0) ⊎ (status ≡ 3) → ⊥
  no_good (inl e) = omega (arith, e, seven_on status fault)
  no_good (inr e) = omega (arith, e, seven_on status fault)

  pub run_halted : IsArchiveRun asked limit before after status
  run_halted = record {
    read = t.read;
    written = telling.written;
    takes = t.takes;
    adds = telling.adds;
    within = t.within;
    reported = λ h. absurd (no_good h);
    clean = λ e. absurd (no_good (inl e));
    against = λ e. absurd (no_good (inr e));
    read_fault = λ e.
        let is = was_read why status own e in
        let told = telling.told.others (λ h. omega (arith, e, h)) in
        let few = t.read_fault (ap (λ (s : Stop). Err s) is) in
        (cause.rose (ap (λ (s : Stop). Err s) is), told.1, few.0, (t.text, few.1, line_of why stop.Read t.text telling.written is told.2));
    too_long = λ e.
        let is = was_long why status own e in
        let told = telling.told.others (λ h. omega (arith, e, h)) in
        let many = t.too_long (ap (λ (s : Stop). Err s) is) in
        ((no_read_rose {T = ℕ} why stop.TooLong before.input.faults after.input.faults cause is (λ e. absurd (cc)), told.1), many.0, (t.text, many.1, line_of why stop.TooLong t.text telling.written is told.2));
    no_memory = λ e.
        let is = was_memory why status own e in
        let told = telling.told.others (λ h. omega (arith, e, h)) in
        ((no_read_rose {T = ℕ} why stop.OutOfMemory before.input.faults after.input.faults cause is (λ e. absurd (cc)), told.1), (t.text, t.front, line_of why stop.OutOfMemory t.text telling.written is told.2));
    write_fault = λ e. ((telling.told.cut e).0, (t.text, own_line (Some (end_of why)), t.front, end_line asked limit before (streams after.input mid) why t cause, (telling.told.cut e).1));
    others = inr (inr fault);
  }

-- what the statuses of a run say by themselves

module _ (asked : Asked) (limit : ℕ) (before after : Streams) (status : ℕ) (run : IsArchiveRun asked limit before after status) where
  pub not_two : status ≡ 2 → ⊥
  not_two e = none run.others
    where
      none : (status ≡ 0) ⊎ (status ≡ 3) ⊎ (status ≡ 7) ⊎ (status ≡ 8) ⊎ (status ≡ 12) ⊎ (status ≡ 13) → ⊥
      none (inl h) = omega (arith, e, h)
      none (inr (inl h)) = omega (arith, e, h)
      none (inr (inr (inl h))) = omega (arith, e, h)
      none (inr (inr (inr (inl h)))) = omega (arith, e, h)
      none (inr (inr (inr (inr (inl h))))) = omega (arith, e, h)
      none (inr (inr (inr (inr (inr h))))) = omega (arith, e, h)

  pub run_complete : ¬ Rose before.input.faults after.input.faults → ¬ Rose before.output.faults after.output.faults → (status ≡ 0) ⊎ (status ≡ 3) ⊎ (status ≡ 12) ⊎ (status ≡ 13)
  run_complete no_read no_write = some run.others
    where
      some : (status ≡ 0) ⊎ (status ≡ 3) ⊎ (status ≡ 7) ⊎ (status ≡ 8) ⊎ (status ≡ 12) ⊎ (status ≡ 13) → (status ≡ 0) ⊎ (status ≡ 3) ⊎ (status ≡ 12) ⊎ (status ≡ 13)
      some (inl h) = inl h
      some (inr (inl h)) = inr (inl h)
      some (inr (inr (inl h))) = absurd (no_read (run.read_fault h).0)
      some (inr (inr (inr (inl h)))) = absurd (no_write (run.write_fault h).0)
      some (inr (inr (inr (inr (inl h))))) = inr (inr (inl h))
      some (inr (inr (inr (inr (inr h))))) = inr (inr (inr h))

-- What the words asked for was done by a run that halted, once its end was told.
module _ (words : List (List ℕ)) (asked : Asked) (limit : ℕ) (before after : Streams) (mid : Outflow) (status : ℕ) (why : Stop) (end : End) where
  run_ended : WritesTo asked limit before (streams after.input mid) (Reports asked) (Err why) → IsCauseOf {T = ℕ} stop.Read before.input.faults after.input.faults (Err why) → IsCauseOf {T = ℕ} stop.Write before.output.faults mid.faults (Err why) → end ≡ end_of why → Tells mid after.output (Some end) status
      → IsArchiveRun asked limit before after status
  run_ended t read write is tells =
      run_halted asked limit before after mid status why t read (told_by why end t.text t.written before.output mid after.output status (has_written {T = ℕ} (Err why) t.text t.written before.output mid t.adds t.begins t.whole write) is tells)

  pub does_ended : ◌≡◌ {A = Option Asked} (Some asked) (asked_of words) → WritesTo asked limit before (streams after.input mid) (Reports asked) (Err why) → IsCauseOf {T = ℕ} stop.Read before.input.faults after.input.faults (Err why) → IsCauseOf {T = ℕ} stop.Write before.output.faults mid.faults (Err why) → end ≡ end_of why → Tells mid after.output (Some end) status
      → DoesAsAsked words limit before after status
  does_ended asked_is t read write is tells =
      let run = run_ended t read write is tells in
      record {
        run = rw (sym asked_is) run;
        usage = λ e. absurd (not_two asked limit before after status run e);
        read_fault = λ e. (run.read_fault e).0;
        write_fault = λ e. (run.write_fault e).0;
        complete = λ _ no_read no_write. run_complete asked limit before after status run no_read no_write;
      }
