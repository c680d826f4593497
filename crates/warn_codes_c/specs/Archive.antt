-- The products of a stream, as they are taken.
use Rattle.std.specs.Prelude.{◌≡◌, ℕ, ◌+◌, true, false, List, [], ◌∷◌, ◌++◌, length, map, Result, Ok, Err}
use Rattle.hazard_types.specs.declared.codes.Class.{Class}
use Rattle.event_life.specs.Products.{Product}
use Rattle.product_frame.specs.declared.frame.FrameFault.{FrameFault}
use Rattle.product_decoder.specs.Decoded.{decode}
use Rattle.product_decoder.specs.Feeding.{products_in}
use Rattle.product_decoder.specs.ReaderModel.{product_of}
use Rattle.product_decoder.specs.declared.types.Decoded.{Decoded}
use Rattle.warn_codes_c.specs.declared.archive.Archive.{Archive}

-- what is read of a product: what it says, or its first fault
abbrev pub Reading : Type 0
Reading = Result Decoded FrameFault

-- the product, as the reader of an office and class sees it, if it has no fault
abbrev pub product_in : List ℕ → Class → Reading → List Product
product_in office class (Ok d) = product_of office class d ∷ []
product_in office class (Err f) = []

-- those of products that have no fault
abbrev pub products_of : List ℕ → Class → List Reading → List Product
products_of office class [] = []
products_of office class (r ∷ rs) = product_in office class r ++ products_of office class rs

-- the number of each of them among all products, of which the first has this one
abbrev pub number_in : ℕ → Reading → List ℕ
number_in k (Ok d) = k ∷ []
number_in k (Err f) = []

abbrev pub numbers_from : ℕ → List Reading → List ℕ
numbers_from k [] = []
numbers_from k (r ∷ rs) = number_in k r ++ numbers_from (k + 1) rs

-- what is read of the products of a stream
abbrev pub readings_of : List ℕ → List Reading
readings_of bytes = map decode (products_in bytes)

-- one product more was taken
pub record Adds (old : Archive) (reading : Reading) (new : Archive) : Type 0 where
  pub office : new.reader.office ≡ old.reader.office
  pub class : new.reader.class ≡ old.reader.class
  pub products : new.reader.products ≡ old.reader.products ++ product_in old.reader.office old.reader.class reading
  pub numbers : new.numbers ≡ old.numbers ++ number_in (old.count + 1) reading
  pub count : new.count ≡ old.count + 1

-- the products and their numbers once these bytes have come, too
abbrev pub products_with : Archive → List ℕ → List Product
products_with a more = a.reader.products ++ products_of a.reader.office a.reader.class (readings_of (a.feed.rest ++ more))

abbrev pub numbers_with : Archive → List ℕ → List ℕ
numbers_with a more = a.numbers ++ numbers_from (a.count + 1) (readings_of (a.feed.rest ++ more))

abbrev pub count_with : Archive → List ℕ → ℕ
count_with a more = a.count + length (readings_of (a.feed.rest ++ more))

-- Both come to the same, whatever is to come of the stream, and at its end nothing is.
pub record Same (old new : Archive) : Type 0 where
  pub office : new.reader.office ≡ old.reader.office
  pub class : new.reader.class ≡ old.reader.class
  pub ended : new.feed.ended ≡ old.feed.ended
  pub products : (more : List ℕ) → (old.feed.ended ≡ true → more ≡ []) → products_with new more ≡ products_with old more
  pub numbers : (more : List ℕ) → (old.feed.ended ≡ true → more ≡ []) → numbers_with new more ≡ numbers_with old more
  pub count : (more : List ℕ) → (old.feed.ended ≡ true → more ≡ []) → count_with new more ≡ count_with old more

-- a piece of the stream came
pub record Pushed (old : Archive) (piece : List ℕ) (new : Archive) : Type 0 where
  pub office : new.reader.office ≡ old.reader.office
  pub class : new.reader.class ≡ old.reader.class
  pub going : new.feed.ended ≡ false
  pub products : (more : List ℕ) → products_with new more ≡ products_with old (piece ++ more)
  pub numbers : (more : List ℕ) → numbers_with new more ≡ numbers_with old (piece ++ more)
  pub count : (more : List ℕ) → count_with new more ≡ count_with old (piece ++ more)

-- the stream ended
pub record Ended (old new : Archive) : Type 0 where
  pub office : new.reader.office ≡ old.reader.office
  pub class : new.reader.class ≡ old.reader.class
  pub ended : new.feed.ended ≡ true
  pub rest : new.feed.rest ≡ []
  pub products : new.reader.products ≡ products_with old []
  pub numbers : new.numbers ≡ numbers_with old []
  pub count : new.count ≡ count_with old []

-- the stream ended, and another begins
pub record Finished (old new : Archive) : Type 0 where
  pub office : new.reader.office ≡ old.reader.office
  pub class : new.reader.class ≡ old.reader.class
  pub going : new.feed.ended ≡ false
  pub rest : new.feed.rest ≡ []
  pub products : new.reader.products ≡ products_with old []
  pub numbers : new.numbers ≡ numbers_with old []
  pub count : new.count ≡ count_with old []
