-- How a report is told piece by piece.
use Rattle.std.specs.Prelude.{◌≡◌, ◌≤◌, ◌⊎◌, ℕ, ◌+◌, ◌++◌, true, false, List, [], length, map, take, Result, IfOk, IsErrOf}
use Rattle.byte_streams.specs.Flows.{Takes, Adds, IsAtEnd, Outflow, Streams}
use Rattle.event_life.specs.Products.{rows_of}
use Rattle.event_life.specs.Shown.{shown_at}
use Rattle.product_decoder.specs.Decoded.{decode}
use Rattle.product_decoder.specs.Feeding.{Fed, Gives, Keeps, products_in}
use Rattle.product_decoder.specs.ReaderModel.{found_of, gaps_found}
use Rattle.product_decoder.specs.declared.types.Decoded.{Decoded}
use Rattle.product_frame.specs.declared.frame.FrameFault.{FrameFault}
use Rattle.program_ends.specs.Ends.{Begins, AddsPrefix}
use Rattle.program_ends.specs.declared.reading.Stop.{Stop}
use Rattle.program_ends.specs.declared.reading.Stop.TheVariants as stop
use Rattle.archive_report.specs.declared.tally.Tally.{Tally}
use Rattle.archive_report.specs.declared.words.Asked.{Asked}
use Rattle.archive_report.specs.Report.{taken_in, products_of, number_in, numbers_from, fault_in, faults_in, product_line, product_lines, findings_text, shown_text, last_line, report, listed}
use Rattle.archive_report.specs.Runs.{HasOne, IsFinishedWritten, IsFront, lines_told}

-- A tally counts products of the office and class, and of these no more than there are.
pub record IsTally (asked : Asked) (tally : Tally) : Type 0 where
  pub office : tally.reader.office ≡ asked.office
  pub class : tally.reader.class ≡ asked.class
  pub few : length tally.reader.products ≤ tally.count
  pub faulty : tally.faults ≤ tally.count

abbrev pub IsFresh : Tally → Type 0
IsFresh tally = (tally.reader.products ≡ []) × (tally.numbers ≡ []) × (tally.count ≡ 0) × (tally.faults ≡ 0)

-- one product more was counted
pub record Counts (asked : Asked) (reading : Result Decoded FrameFault) (old new : Tally) : Type 0 where
  pub products : new.reader.products ≡ old.reader.products ++ taken_in asked reading
  pub numbers : new.numbers ≡ old.numbers ++ number_in (old.count + 1) reading
  pub count : new.count ≡ old.count + 1
  pub faults : new.faults ≡ old.faults + fault_in reading

-- so many products more were counted
pub record CountsAll (asked : Asked) (readings : List (Result Decoded FrameFault)) (old new : Tally) : Type 0 where
  pub products : new.reader.products ≡ old.reader.products ++ products_of asked readings
  pub numbers : new.numbers ≡ old.numbers ++ numbers_from (old.count + 1) readings
  pub count : new.count ≡ old.count + length readings
  pub faults : new.faults ≡ old.faults + faults_in readings

-- a product came out, was counted, and has its line
pub record WritesNext (asked : Asked) (old new : Fed) (tally tally' : Tally) (out out' : List ℕ) : Type 0 where
  pub text : List ℕ
  pub gives : Gives old text new
  pub counts : Counts asked (decode text) tally tally'
  pub fits : IsTally asked tally'
  pub told : out' ≡ out ++ product_line asked (tally.count + 1) (decode text)

-- what is left of a stream has one heading line at most, and comes to the same products as this
abbrev pub Waits : List ℕ → Type 0
Waits new = (held : List ℕ) × HasOne held × Keeps held new

-- All products that were finished came out, were counted, and have their lines; at the stream's end all of them.
pub record WritesEach (asked : Asked) (old new : Fed) (tally tally' : Tally) (out out' : List ℕ) : Type 0 where
  pub texts : List (List ℕ)
  pub ended : new.ended ≡ old.ended
  pub going : old.ended ≡ false → ((more : List ℕ) → products_in (old.rest ++ more) ≡ texts ++ products_in (new.rest ++ more)) × Waits new.rest
  pub last : old.ended ≡ true → products_in old.rest ≡ texts
  pub counts : CountsAll asked (map decode texts) tally tally'
  pub fits : IsTally asked tally'
  pub less : tally'.count + length new.rest ≤ tally.count + length old.rest
  pub told : out' ≡ out ++ product_lines asked (tally.count + 1) (map decode texts)

-- and their lines were written
abbrev pub WritesPiece : Asked → Fed → Fed → Tally → Tally → Outflow → Outflow → Type 0
WritesPiece asked old new tally tally' before after = (out : List ℕ) × WritesEach asked old new tally tally' [] out × Adds before.taken after.taken out

-- nothing was written where memory lacked, and a front of the lines where a write failed
pub record HaltsPiece (asked : Asked) (old : Fed) (tally : Tally) (before after : Outflow) (why : Stop) : Type 0 where
  pub no_memory : why ≡ stop.OutOfMemory → after.taken ≡ before.taken
  pub write_fault : why ≡ stop.Write → (new : Fed) × (tally' : Tally) × (out : List ℕ) × WritesEach asked old new tally tally' [] out × AddsPrefix before.taken after.taken out
  pub reasons : (why ≡ stop.OutOfMemory) ⊎ (why ≡ stop.Write)

-- a tally of these products
pub record IsTallied (asked : Asked) (readings : List (Result Decoded FrameFault)) (tally : Tally) : Type 0 where
  pub fits : IsTally asked tally
  pub products : tally.reader.products ≡ products_of asked readings
  pub numbers : tally.numbers ≡ numbers_from 1 readings
  pub count : tally.count ≡ length readings
  pub faults : tally.faults ≡ faults_in readings

-- A run until it ends, well or for a reason: what was read, the text that was to be written, and what was written of it.
pub record WritesTo {T : Type 0} (asked : Asked) (limit : ℕ) (before after : Streams) (done : List ℕ → List ℕ → T → Type 0) (result : Result T Stop) : Type 0 where
  pub read : List ℕ
  pub text : List ℕ
  pub written : List ℕ
  pub takes : Takes before.input.left after.input.left read
  pub adds : Adds before.output.taken after.output.taken written
  pub within : length read ≤ limit + 1
  pub ended : IfOk result (λ (x : T). IsAtEnd after.input.left × (length read ≤ limit) × done read text x)
  pub read_fault : IsErrOf result stop.Read → (length read ≤ limit) × IsFinishedWritten asked read text
  pub too_long : IsErrOf result stop.TooLong → (length read ≡ limit + 1) × IsFinishedWritten asked (take limit read) text
  pub front : IsFront asked limit read after.input.left text
  pub begins : Begins written text
  pub whole : (IsErrOf result stop.Write → ⊥) → written ≡ text

-- the products of the whole input were counted, and their lines told
abbrev pub ReadsAll : Asked → Tally → List ℕ → List ℕ → Unit {0} → Type 0
ReadsAll asked tally read text x = IsTallied asked (map decode (products_in read)) tally × (text ≡ lines_told asked (products_in read)) × (length (products_in read) ≤ length read)

-- some of what waited, and of the text behind it, was written, and the rest waits
pub record Pages (before after : Outflow) (out out' text : List ℕ) : Type 0 where
  pub written : List ℕ
  pub adds : Adds before.taken after.taken written
  pub whole : written ++ out' ≡ out ++ text

-- a front of the text was written, until memory lacked or a write failed
pub record Halts (before after : Outflow) (text : List ℕ) (why : Stop) : Type 0 where
  pub front : AddsPrefix before.taken after.taken text
  pub reasons : (why ≡ stop.OutOfMemory) ⊎ (why ≡ stop.Write)

-- the report was told, and so many faults, breaches and gaps are listed
abbrev pub Reports : Asked → List ℕ → List ℕ → ℕ → Type 0
Reports asked read text n = (text ≡ report asked read) × (n ≡ listed asked read)

-- how many faults, breaches and gaps a tally lists
abbrev pub count_listed : Tally → ℕ
count_listed tally = tally.faults + length (found_of tally.reader.products) + length (gaps_found tally.reader.products)

-- the rows that are shown, and the last line
abbrev pub end_text : Asked → Tally → List ℕ
end_text asked tally = shown_text asked.minute (shown_at asked.minute (rows_of tally.reader.products)) ++ last_line (count_listed tally)

-- what stands behind the lines of the products
abbrev pub rest_text : Asked → Tally → List ℕ
rest_text asked tally = findings_text tally.numbers tally.reader.products ++ end_text asked tally
