-- How an input is read, and its products counted.
use Rattle.std.specs.Prelude.{◌≡◌, ◌≤◌, ℕ, ◌+◌, ◌++◌, true, false, List, [], length, map, Option, Result, IfOk, IsErrOf}
use Rattle.byte_streams.specs.Flows.{Takes, Adds, IsAtEnd}
use Rattle.product_decoder.specs.Decoded.{decode}
use Rattle.product_decoder.specs.Feeding.{Fed, Gives, products_in}
use Rattle.product_decoder.specs.declared.types.Decoded.{Decoded}
use Rattle.product_frame.specs.declared.frame.FrameFault.{FrameFault}
use Rattle.program_ends.specs.Ends.{Begins}
use Rattle.program_ends.specs.declared.reading.Stop.{Stop}
use Rattle.program_ends.specs.declared.reading.Stop.TheVariants as stop
use Rattle.archive_report.specs.declared.words.Asked.{Asked}
use Rattle.archive_report.specs.Report.{products_of, faults_in, readings_of}
use Rattle.stats_report.specs.Report.{stats_text}
use Rattle.stats_report.specs.Tallies.{IsKept, Counts, CountsAll}
use Rattle.stats_report.specs.declared.tally.Tally.{Tally}

-- the statistics of an input: those of its products without a fault, and how many have one
unfoldable pub statistics : Asked → List ℕ → List ℕ
statistics asked bytes = stats_text asked.minute (products_of asked (readings_of bytes)) (faults_in (readings_of bytes))

-- nothing was taken yet
abbrev pub IsFresh : Asked → Tally → Type 0
IsFresh asked tally = IsKept asked.minute [] tally × (tally.count ≡ 0) × (tally.faults ≡ 0)

-- a product came out, and was counted
pub record TakesNext (asked : Asked) (old new : Fed) (tally tally' : Tally) : Type 0 where
  pub text : List ℕ
  pub gives : Gives old text new
  pub counts : Counts asked (decode text) tally tally'

-- all products that were finished came out and were counted; at the stream's end all of them
pub record TakesEach (asked : Asked) (old new : Fed) (tally tally' : Tally) : Type 0 where
  pub texts : List (List ℕ)
  pub ended : new.ended ≡ old.ended
  pub going : old.ended ≡ false → (more : List ℕ) → products_in (old.rest ++ more) ≡ texts ++ products_in (new.rest ++ more)
  pub last : old.ended ≡ true → products_in old.rest ≡ texts
  pub counts : CountsAll asked (map decode texts) tally tally'
  pub less : tally'.count + length new.rest ≤ tally.count + length old.rest

-- a tally of these products
pub record IsTallied (asked : Asked) (readings : List (Result Decoded FrameFault)) (tally : Tally) : Type 0 where
  pub kept : IsKept asked.minute (products_of asked readings) tally
  pub count : tally.count ≡ length readings
  pub faults : tally.faults ≡ faults_in readings

-- An input until its end, or until the run stops for a reason.
pub record ReadsTo {T : Type 0} (asked : Asked) (limit : ℕ) (left left' : Option (List ℕ)) (tally : Tally) (result : Result T Stop) : Type 0 where
  pub read : List ℕ
  pub takes : Takes left left' read
  -- One byte beyond the limit is read, to see that there is one.
  pub within : length read ≤ limit + 1
  pub ended : IfOk result (λ (x : T). IsAtEnd left' × (length read ≤ limit) × IsTallied asked (map decode (products_in read)) tally)
  pub read_fault : IsErrOf result stop.Read → length read ≤ limit
  pub too_long : IsErrOf result stop.TooLong → length read ≡ limit + 1
  pub unwritten : IsErrOf result stop.Write → ⊥

-- A run until its end is told: what was read, the text that was to be written, and what was written of it.
pub record WritesTo {T : Type 0} (asked : Asked) (limit : ℕ) (left left' taken taken' : Option (List ℕ)) (result : Result T Stop) : Type 0 where
  pub read : List ℕ
  pub text : List ℕ
  pub written : List ℕ
  pub takes : Takes left left' read
  pub adds : Adds taken taken' written
  pub within : length read ≤ limit + 1
  pub ended : IfOk result (λ (x : T). IsAtEnd left' × (length read ≤ limit) × (text ≡ statistics asked read))
  pub read_fault : IsErrOf result stop.Read → (length read ≤ limit) × (text ≡ [])
  pub too_long : IsErrOf result stop.TooLong → (length read ≡ limit + 1) × (text ≡ [])
  pub no_memory : IsErrOf result stop.OutOfMemory → text ≡ []
  pub write_fault : IsErrOf result stop.Write → IsAtEnd left' × (length read ≤ limit) × (text ≡ statistics asked read)
  pub begins : Begins written text
  pub whole : (IsErrOf result stop.Write → ⊥) → written ≡ text
