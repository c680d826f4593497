-- A whole run, once its end was told.
use Rattle.std.proofs.Common.{◌≡◌, ◌≢◌, ◌∙◌, ◌⊎◌, inl, inr, ℕ, ◌+◌, ◌≤◌, List, [], ◌++◌, length, map, refl, ap, sym, append-nil, arith, Option, Some, Result, Ok, Err}
use Rattle.desk_traits.specs.Faults.{Rose}
use Rattle.byte_streams.specs.Flows.{Takes, Adds, Outflow, Streams}
use Rattle.event_life.specs.Products.{Product}
use Rattle.product_decoder.specs.Decoded.{decode}
use Rattle.product_decoder.specs.Feeding.{products_in}
use Rattle.program_ends.specs.Ends.{fault_line, own_line, own_status, Begins, Telling}
use Rattle.program_ends.specs.Runs.{end_of}
use Rattle.program_ends.specs.Steps.{IsCauseOf}
use Rattle.program_ends.specs.declared.ends.End.{End}
use Rattle.program_ends.specs.declared.ends.End.TheVariants.{ReadFault, InputTooLong, OutOfMemory}
use Rattle.program_ends.specs.declared.reading.Stop.{Stop}
use Rattle.program_ends.specs.declared.reading.Stop.TheVariants as stop
use Rattle.program_ends.proofs.Answering.{adds_none}
use Rattle.program_ends.proofs.Finishing.{Tells, has_written, told_by}
use Rattle.program_ends.proofs.Telling.{begins_self}
use Rattle.archive_report.specs.declared.words.Asked.{Asked}
use Rattle.archive_report.specs.Report.{products_of, faults_in}
use Rattle.archive_report.specs.Words.{asked_of}
use Rattle.archive_report.proofs.Ending.{was_read, was_long, was_memory, fault_status, seven_on, line_of, no_read_rose}
use Rattle.archive_report.proofs.Fronts.{readings_told}
use Rattle.stats_report.specs.Readings.{statistics, IsTallied, ReadsTo, WritesTo}
use Rattle.stats_report.specs.Report.{stats_text}
use Rattle.stats_report.specs.Runs.{DoesAsAsked, IsStatsRun, WasTold}
use Rattle.stats_report.specs.Tallies.{IsKept}
use Rattle.stats_report.specs.declared.tally.Tally.{Tally}

-- the text of a tally of the products of an input
abbrev pub IsText : List ℕ → Tally → Type 0
IsText text tally = (stamp : ℕ) (products : List Product) → IsKept stamp products tally → text ≡ stats_text stamp products tally.faults

pub text_is : (asked : Asked) (read text : List ℕ) (tally : Tally) → IsTallied asked (map decode (products_in read)) tally → IsText text tally → text ≡ statistics asked read
unfolding statistics
text_is asked read text tally is told =
    let rs = readings_told read in
    let products = ap (products_of asked) (sym rs) in
    let faults = is.faults ∙ ap faults_in (sym rs) in
    told asked.minute (products_of asked (map decode (products_in read))) is.kept ∙ (λ i. stats_text asked.minute (products i) (faults i))

module _ (asked : Asked) (limit : ℕ) (left left' taken : Option (List ℕ)) (tally : Tally) where
  -- the run stopped before there was a text, with nothing written
  untold : {T : Type 0} (why : Stop) (read : List ℕ) → Takes left left' read → length read ≤ limit + 1 → (why ≡ stop.Read → length read ≤ limit) → (why ≡ stop.TooLong → length read ≡ limit + 1) → (why ≡ stop.Write → ⊥)
      → WritesTo {T = T} asked limit left left' taken taken (Err why)
  untold {T} why read takes within failed long unwritten = record {
    read = read;
    text = [];
    written = [];
    takes = takes;
    adds = adds_none taken;
    within = within;
    ended = tt;
    read_fault = λ e. (failed (reason stop.Read e), refl);
    too_long = λ e. (long (reason stop.TooLong e), refl);
    no_memory = λ _. refl;
    write_fault = λ e. absurd (unwritten (reason stop.Write e));
    begins = begins_self [];
    whole = λ _. refl;
  }
    where
      reason : (other : Stop) → ◌≡◌ {A = Result T Stop} (Err why) (Err other) → why ≡ other
      reason other e = cc

  -- the run stopped while the input was read
  pub ends_reading : {T : Type 0} (why : Stop) → ReadsTo {T = T} asked limit left left' tally (Err why) → WritesTo {T = T} asked limit left left' taken taken (Err why)
  ends_reading why t = untold why t.read t.takes t.within (λ e. t.read_fault (ap (λ s. Err s) e)) (λ e. t.too_long (ap (λ s. Err s) e)) (λ e. t.unwritten (ap (λ s. Err s) e))

  module _ {T : Type 0} (x : T) (t : ReadsTo {T = T} asked limit left left' tally (Ok x)) where
    -- memory lacked for the text
    pub ends_texting : {U : Type 0} → WritesTo {T = U} asked limit left left' taken taken (Err stop.OutOfMemory)
    ends_texting = untold stop.OutOfMemory t.read t.takes t.within (λ e. absurd (cc)) (λ e. absurd (cc)) (λ e. absurd (cc))

    module _ (text : List ℕ) (taken' : Option (List ℕ)) (is : IsText text tally) where
      whole_is : text ≡ statistics asked t.read
      whole_is = text_is asked t.read text tally t.ended.2 is

      pub ends_whole : {U : Type 0} (u : U) → Adds taken taken' text → WritesTo asked limit left left' taken taken' (Ok u)
      ends_whole u adds = record {
        read = t.read;
        text = text;
        written = text;
        takes = t.takes;
        adds = adds;
        within = t.within;
        ended = (t.ended.0, t.ended.1, whole_is);
        read_fault = λ e. absurd (cc);
        too_long = λ e. absurd (cc);
        no_memory = λ e. absurd (cc);
        write_fault = λ e. absurd (cc);
        begins = begins_self text;
        whole = λ _. refl;
      }

      pub ends_writing : {U : Type 0} (front : List ℕ) → Begins front text → Adds taken taken' front → WritesTo {T = U} asked limit left left' taken taken' (Err stop.Write)
      ends_writing front begins adds = record {
        read = t.read;
        text = text;
        written = front;
        takes = t.takes;
        adds = adds;
        within = t.within;
        ended = tt;
        read_fault = λ e. absurd (cc);
        too_long = λ e. absurd (cc);
        no_memory = λ e. absurd (cc);
        write_fault = λ _. (t.ended.0, t.ended.1, whole_is);
        begins = begins;
        whole = λ no. absurd (no refl);
      }

module _ {T : Type 0} (asked : Asked) (limit : ℕ) (before after : Streams) where
  -- a run that told all
  pub run_whole : (x : T) → WritesTo asked limit before.input.left after.input.left before.output.taken after.output.taken (Ok x) → after.input.faults ≡ before.input.faults → after.output.faults ≡ before.output.faults → IsStatsRun asked limit before after 0
  run_whole x t read_steady write_steady = record {
    read = t.read;
    written = t.written;
    takes = t.takes;
    adds = t.adds;
    within = t.within;
    told = λ _. (t.ended.0, t.ended.1, t.whole (λ e. absurd (cc)) ∙ t.ended.2, (read_steady, write_steady));
    read_fault = λ e. absurd (omega (arith, e));
    too_long = λ e. absurd (omega (arith, e));
    no_memory = λ e. absurd (omega (arith, e));
    write_fault = λ e. absurd (omega (arith, e));
    others = inl refl;
  }

-- where nothing was to be written before it, the line of a fault stands alone
front_nil : (text line : List ℕ) → text ≡ [] → text ++ line ≡ line
front_nil text line none = ap (λ (t : List ℕ). t ++ line) none

-- what a run that ended early was to write: all, or the line of its reason
was_told : {T : Type 0} (asked : Asked) (limit reads reads' : ℕ) (left left' taken taken' : Option (List ℕ)) (why : Stop) (t : WritesTo {T = T} asked limit left left' taken taken' (Err why)) → IsCauseOf {T = T} stop.Read reads reads' (Err why)
    → WasTold asked limit t.read left' reads reads' (t.text ++ own_line (Some (end_of why)))
was_told asked limit reads reads' left left' taken taken' stop.Read t cause = inr (inl (front_nil t.text (fault_line ReadFault) (t.read_fault refl).1, cause.rose refl, (t.read_fault refl).0))
was_told asked limit reads reads' left left' taken taken' stop.Write t cause = let all = t.write_fault refl in inl (append-nil t.text ∙ all.2, all.0, all.1, cause.steady (λ e. absurd (cc)))
was_told asked limit reads reads' left left' taken taken' stop.TooLong t cause = inr (inr (inl (front_nil t.text (fault_line InputTooLong) (t.too_long refl).1, cause.steady (λ e. absurd (cc)), (t.too_long refl).0)))
was_told asked limit reads reads' left left' taken taken' stop.OutOfMemory t cause = inr (inr (inr (front_nil t.text (fault_line OutOfMemory) (t.no_memory refl), cause.steady (λ e. absurd (cc)))))

-- a run that ended early
module _ {T : Type 0} (asked : Asked) (limit : ℕ) (before after : Streams) (mid : Outflow) (status : ℕ) (why : Stop) (t : WritesTo {T = T} asked limit before.input.left after.input.left before.output.taken mid.taken (Err why)) (cause : IsCauseOf {T = T} stop.Read before.input.faults after.input.faults (Err why))
    (telling : Telling t.text before.output after.output (Some (end_of why)) status) where
  own : status ≢ 8 → status ≡ own_status (Some (end_of why))
  own other = (telling.told.others other).0

  fault : (status ≡ 7) ⊎ (status ≡ 8) ⊎ (status ≡ 12) ⊎ (status ≡ 13)
  fault = fault_status why status own

  pub run_halted : IsStatsRun asked limit before after status
  run_halted = record {
    read = t.read;
    written = telling.written;
    takes = t.takes;
    adds = telling.adds;
    within = t.within;
    told = λ e. absurd (omega (arith, e, seven_on status fault));
    read_fault = λ e.
        let is = was_read why status own e in
        let told = telling.told.others (λ h. omega (arith, e, h)) in
        let few = t.read_fault (ap (λ (s : Stop). Err s) is) in
        (cause.rose (ap (λ (s : Stop). Err s) is), told.1, few.0, line_of why stop.Read t.text telling.written is told.2 ∙ front_nil t.text (fault_line ReadFault) few.1);
    too_long = λ e.
        let is = was_long why status own e in
        let told = telling.told.others (λ h. omega (arith, e, h)) in
        let many = t.too_long (ap (λ (s : Stop). Err s) is) in
        ((no_read_rose {T = T} why stop.TooLong before.input.faults after.input.faults cause is (λ e. absurd (cc)), told.1), many.0, line_of why stop.TooLong t.text telling.written is told.2 ∙ front_nil t.text (fault_line InputTooLong) many.1);
    no_memory = λ e.
        let is = was_memory why status own e in
        let told = telling.told.others (λ h. omega (arith, e, h)) in
        ((no_read_rose {T = T} why stop.OutOfMemory before.input.faults after.input.faults cause is (λ e. absurd (cc)), told.1), line_of why stop.OutOfMemory t.text telling.written is told.2 ∙ front_nil t.text (fault_line OutOfMemory) (t.no_memory (ap (λ (s : Stop). Err s) is)));
    write_fault = λ e. ((telling.told.cut e).0, (t.text ++ own_line (Some (end_of why)), was_told {T = T} asked limit before.input.faults after.input.faults before.input.left after.input.left before.output.taken mid.taken why t cause, (telling.told.cut e).1));
    others = inr fault;
  }

-- what the statuses of a run say by themselves

module _ (asked : Asked) (limit : ℕ) (before after : Streams) (status : ℕ) (run : IsStatsRun asked limit before after status) where
  pub not_two : status ≡ 2 → ⊥
  not_two e = none run.others
    where
      none : (status ≡ 0) ⊎ (status ≡ 7) ⊎ (status ≡ 8) ⊎ (status ≡ 12) ⊎ (status ≡ 13) → ⊥
      none (inl h) = omega (arith, e, h)
      none (inr (inl h)) = omega (arith, e, h)
      none (inr (inr (inl h))) = omega (arith, e, h)
      none (inr (inr (inr (inl h)))) = omega (arith, e, h)
      none (inr (inr (inr (inr h)))) = omega (arith, e, h)

  pub run_complete : ¬ Rose before.input.faults after.input.faults → ¬ Rose before.output.faults after.output.faults → (status ≡ 0) ⊎ (status ≡ 12) ⊎ (status ≡ 13)
  run_complete no_read no_write = some run.others
    where
      some : (status ≡ 0) ⊎ (status ≡ 7) ⊎ (status ≡ 8) ⊎ (status ≡ 12) ⊎ (status ≡ 13) → (status ≡ 0) ⊎ (status ≡ 12) ⊎ (status ≡ 13)
      some (inl h) = inl h
      some (inr (inl h)) = absurd (no_read (run.read_fault h).0)
      some (inr (inr (inl h))) = absurd (no_write (run.write_fault h).0)
      some (inr (inr (inr (inl h)))) = inr (inl h)
      some (inr (inr (inr (inr h)))) = inr (inr h)

-- What the words asked for was done by a run that halted, once its end was told.
module _ {T : Type 0} (words : List (List ℕ)) (asked : Asked) (limit : ℕ) (before after : Streams) (mid : Outflow) (status : ℕ) (why : Stop) (end : End) where
  run_ended : WritesTo {T = T} asked limit before.input.left after.input.left before.output.taken mid.taken (Err why) → IsCauseOf {T = T} stop.Read before.input.faults after.input.faults (Err why) → IsCauseOf {T = T} stop.Write before.output.faults mid.faults (Err why) → end ≡ end_of why → Tells mid after.output (Some end) status
      → IsStatsRun asked limit before after status
  run_ended t read write is tells =
      run_halted asked limit before after mid status why t read (told_by why end t.text t.written before.output mid after.output status (has_written {T = T} (Err why) t.text t.written before.output mid t.adds t.begins t.whole write) is tells)

  pub does_ended : ◌≡◌ {A = Option Asked} (Some asked) (asked_of words) → WritesTo {T = T} asked limit before.input.left after.input.left before.output.taken mid.taken (Err why) → IsCauseOf {T = T} stop.Read before.input.faults after.input.faults (Err why) → IsCauseOf {T = T} stop.Write before.output.faults mid.faults (Err why) → end ≡ end_of why → Tells mid after.output (Some end) status
      → DoesAsAsked words limit before after status
  does_ended asked_is t read write is tells =
      let run = run_ended t read write is tells in
      record {
        run = rw (sym asked_is) run;
        usage = λ e. absurd (not_two asked limit before after status run e);
        read_fault = λ e. (run.read_fault e).0;
        write_fault = λ e. (run.write_fault e).0;
        complete = λ _ no_read no_write. run_complete asked limit before after status run no_read no_write;
      }
