-- What a tally keeps of products, of which it holds none.
use Rattle.std.specs.Prelude.{◌≡◌, ℕ, ◌+◌, List, ◌++◌, length, max, Result, Ok, Err}
use Rattle.event_life.specs.Products.{Product, rows_with, rows_of}
use Rattle.event_life.specs.Lives.{judged_product}
use Rattle.product_decoder.specs.Openings.{openings_of}
use Rattle.product_decoder.specs.ReaderModel.{product_of}
use Rattle.product_decoder.specs.declared.types.Decoded.{Decoded}
use Rattle.product_frame.specs.declared.frame.FrameFault.{FrameFault}
use Rattle.archive_report.specs.declared.words.Asked.{Asked}
use Rattle.archive_report.specs.Report.{taken_in, products_of, fault_in, faults_in}
use Rattle.stats_report.specs.Minutes.{greatest}
use Rattle.stats_report.specs.Spells.{kept_of, moment_of}
use Rattle.stats_report.specs.Spots.{Spots, IsCounted}
use Rattle.stats_report.specs.Summed.{IsSummed, AreKeyed, TakesLines}
use Rattle.stats_report.specs.declared.tally.Tally.{Tally}

-- the rows of the products, with their minutes before the stamp, and the openings are summed up
pub record IsKept (stamp : ℕ) (products : List Product) (tally : Tally) : Type 0 where
  pub rows : tally.rows ≡ rows_of products
  pub latest : tally.latest ≡ greatest products
  pub es : Spots
  pub counted : IsCounted stamp products es
  pub summed : IsSummed stamp (greatest products) es (openings_of products) (kept_of tally.standing)
  pub keyed : AreKeyed (rows_of products) (kept_of tally.standing)

-- A product was taken: its judged lines were.
pub record TakesOne (stamp : ℕ) (p : Product) (old new : Tally) : Type 0 where
  pub rows : new.rows ≡ rows_with old.rows p
  pub latest : new.latest ≡ max old.latest p.issue
  pub standing : TakesLines (moment_of stamp new.latest p.issue) (judged_product old.rows p) (kept_of old.standing) (kept_of new.standing)
  pub same : (new.count ≡ old.count) × (new.faults ≡ old.faults)

-- so was one without a fault, as the reader of the office and class sees it
abbrev pub TakesProduct : Asked → Decoded → Tally → Tally → Type 0
TakesProduct asked d old new = TakesOne asked.minute (product_of asked.office asked.class d) old new

-- a product that has a fault was counted
pub record CountsFault (old new : Tally) : Type 0 where
  pub rows : new.rows ≡ old.rows
  pub latest : new.latest ≡ old.latest
  pub standing : kept_of new.standing ≡ kept_of old.standing
  pub count : new.count ≡ old.count
  pub faults : new.faults ≡ old.faults + 1

-- what was read of a product was taken, or its fault counted
abbrev pub TakesReading : Asked → Result Decoded FrameFault → Tally → Tally → Type 0
TakesReading asked (Ok d) old new = TakesProduct asked d old new
TakesReading asked (Err f) old new = CountsFault old new

-- one product more was counted, behind whatever products were counted before
pub record Counts (asked : Asked) (reading : Result Decoded FrameFault) (old new : Tally) : Type 0 where
  pub kept : (products : List Product) → IsKept asked.minute products old → IsKept asked.minute (products ++ taken_in asked reading) new
  pub count : new.count ≡ old.count + 1
  pub faults : new.faults ≡ old.faults + fault_in reading

-- so many products more were counted
pub record CountsAll (asked : Asked) (readings : List (Result Decoded FrameFault)) (old new : Tally) : Type 0 where
  pub kept : (products : List Product) → IsKept asked.minute products old → IsKept asked.minute (products ++ products_of asked readings) new
  pub count : new.count ≡ old.count + length readings
  pub faults : new.faults ≡ old.faults + faults_in readings
