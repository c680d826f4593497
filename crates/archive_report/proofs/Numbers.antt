-- Breaches are in products that were taken.
use Rattle.std.proofs.Common.{◌≡◌, ℕ, ◌+◌, ◌≤◌, List, [], ◌∷◌, ◌++◌, length, refl, arith, Option, None, Some, Result, Ok, Err}
use Rattle.std.specs.List.{All, AllByRecursion}
use Rattle.std.proofs.lemmas.List.Elements.{All-from_recursion}
use Rattle.hazard_types.specs.declared.line.Line.{Line}
use Rattle.hazard_types.specs.declared.line.Row.{Row}
use Rattle.event_life.specs.declared.life.Breach.{Breach}
use Rattle.event_life.specs.Lives.{judged_product}
use Rattle.event_life.specs.Products.{Product, rows_with}
use Rattle.product_frame.specs.declared.frame.FrameFault.{FrameFault}
use Rattle.product_decoder.specs.ReaderModel.{found_at, found_in, found_from, found_of}
use Rattle.product_decoder.specs.declared.types.Decoded.{Decoded}
use Rattle.archive_report.specs.declared.tally.Tally.{Tally}
use Rattle.archive_report.specs.declared.words.Asked.{Asked}
use Rattle.archive_report.specs.Pieces.{IsTallied}
use Rattle.archive_report.specs.Readings.{IsNumbered}
use Rattle.archive_report.specs.Report.{products_of, numbers_from}

all_both : {X : Type 0} (P : X → Type 0) (xs ys : List X) → AllByRecursion P xs → AllByRecursion P ys → AllByRecursion P (xs ++ ys)
all_both P [] ys h k = k
all_both P (x ∷ xs) ys h k = (h.0, all_both P xs ys h.1 k)

module _ (size count : ℕ) (first : 1 ≤ count) (last : count ≤ size) where
  each_at : (line : Line) (breach : Option Breach) → AllByRecursion (IsNumbered size) (found_at count line breach)
  each_at line None = tt
  each_at line (Some breach) = ((first, last), tt)

  each_in : (ls : List (Line × Option Breach)) → AllByRecursion (IsNumbered size) (found_in count ls)
  each_in [] = tt
  each_in (l ∷ ls) = all_both (IsNumbered size) (found_at count l.0 l.1) (found_in count ls) (each_at l.0 l.1) (each_in ls)

each_from : (size : ℕ) (rows : List Row) (count : ℕ) (products : List Product) → 1 ≤ count → count + length products ≤ size + 1 → AllByRecursion (IsNumbered size) (found_from rows count products)
each_from size rows count [] first last = tt
each_from size rows count (p ∷ products) first last =
    let le : count ≤ size = omega arith in
    let next : count + 1 + length products ≤ size + 1 = omega arith in
    all_both (IsNumbered size) (found_in count (judged_product rows p)) (found_from (rows_with rows p) (count + 1) products)
    (each_in size count first le (judged_product rows p)) (each_from size (rows_with rows p) (count + 1) products (omega arith) next)

as_many : (asked : Asked) (k : ℕ) (readings : List (Result Decoded FrameFault)) → length (numbers_from k readings) ≡ length (products_of asked readings)
as_many asked k [] = refl
as_many asked k (Ok d ∷ readings) = let ih = as_many asked (k + 1) readings in omega (arith, ih)
as_many asked k (Err f ∷ readings) = as_many asked (k + 1) readings

pub breaches_are_numbered : (asked : Asked) (readings : List (Result Decoded FrameFault)) → All (IsNumbered (length (numbers_from 1 readings))) (found_of (products_of asked readings))
unfolding found_of
breaches_are_numbered asked readings =
    let size = length (numbers_from 1 readings) in
    All-from_recursion (IsNumbered size) (found_from [] 1 (products_of asked readings))
    (each_from size [] 1 (products_of asked readings) (omega arith) (omega (arith, as_many asked 1 readings)))

pub tally_numbered : (asked : Asked) (readings : List (Result Decoded FrameFault)) (tally : Tally) → IsTallied asked readings tally → All (IsNumbered (length tally.numbers)) (found_of tally.reader.products)
tally_numbered asked readings tally t = rw (t.numbers, t.products) (breaches_are_numbered asked readings)
