-- What a follower takes. It is seen as a reader: an office, a class, and the products that it took.
use Rattle.std.specs.Prelude.{◌==◌, ◌&&◌, ◌++◌, ℕ, Bool, List, [], ◌∷◌, length, is_ok, if◌then◌else◌, Result, Ok, Err}
use Rattle.hazard_types.specs.Given.{◌>>=◌}
use Rattle.hazard_types.specs.declared.codes.Class.{Class}
use Rattle.event_life.specs.Products.{Product}
use Rattle.product_decoder.specs.Decoded.{decode}
use Rattle.product_decoder.specs.ReaderModel.{Reading, product_of}
use Rattle.product_decoder.specs.declared.types.Decoded.{Decoded}
use Rattle.product_frame.specs.declared.frame.FrameFault.{FrameFault}
use Rattle.follow_core.specs.declared.follower.Heard.{Heard}
use Rattle.follow_core.specs.declared.follower.Heard.TheVariants.{Old, New}

-- how many texts it took; it asks for what comes after
abbrev pub place_of : Reading → ℕ
place_of f = length f.products

-- the product that a reader of the office and class finds in a text, where the text decodes
abbrev pub found_in : List ℕ → Class → Result Decoded FrameFault → List Product
found_in office class (Err fault) = []
found_in office class (Ok decoded) = product_of office class decoded ∷ []

-- those of texts, in order
abbrev pub products_in : List ℕ → Class → List (List ℕ) → List Product
products_in office class [] = []
products_in office class (text ∷ texts) = found_in office class (decode text) ++ products_in office class texts

-- the text is the answer to the question after this place, and decodes
abbrev pub is_taken : ℕ → ℕ → List ℕ → Bool
is_taken place after text = (after == place) && is_ok (decode text)

-- what is answered to a text that came for the question after `after`
abbrev pub answer_to : ℕ → ℕ → List ℕ → Result Heard FrameFault
answer_to place after text = if after == place then (decode text >>= λ d. Ok New) else Ok Old

-- what the follower is then
abbrev pub having_taken : Reading → ℕ → List ℕ → Reading
having_taken f after text = record {
  office = f.office;
  class = f.class;
  products = if after == place_of f then f.products ++ found_in f.office f.class (decode text) else f.products;
}
