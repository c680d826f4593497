-- What someone finds who has an office's texts alone.
use Rattle.std.specs.Prelude.{◌≡◌, ℕ, IsOk, List, [], ◌∷◌, map, Result, Ok, Err}
use Rattle.std.specs.List.{All, flat_map}
use Rattle.hazard_types.specs.Places.{Place}
use Rattle.hazard_types.specs.declared.codes.Class.{Class}
use Rattle.hazard_types.specs.declared.hazard.Event.{Event}
use Rattle.hazard_types.specs.declared.hazard.Hazard.{Hazard}
use Rattle.office_types.specs.declared.request.Sent.{Sent}
use Rattle.event_life.specs.Lives.{IsLawfulLife}
use Rattle.event_life.specs.Openings.{IsGapless, counted_from, numbers_of, opened_of}
use Rattle.event_life.specs.Products.{Product, rows_of}
use Rattle.event_numbers.specs.declared.Count.{Count}
use Rattle.event_numbers.specs.Counts.{count_of}
use Rattle.product_decoder.specs.Decoded.{decode}
use Rattle.product_decoder.specs.ReaderModel.{product_of}
use Rattle.product_decoder.specs.declared.types.Decoded.{Decoded}
use Rattle.product_frame.specs.Splitting.{IsOneProduct}
use Rattle.product_frame.specs.declared.frame.FrameFault.{FrameFault}
use Rattle.office_core.specs.State.{State}

-- the texts of the products, in order
abbrev pub texts_of : State → List (List ℕ)
texts_of s = map (λ (sent : Sent). sent.text) s.products

-- the product that a reader of the office and class finds in a text, if it decodes
abbrev pub product_in : List ℕ → Class → Result Decoded FrameFault → List Product
product_in office class (Err fault) = []
product_in office class (Ok decoded) = product_of office class decoded ∷ []

abbrev pub products_in : List ℕ → Class → List (List ℕ) → List Product
products_in office class texts = flat_map (λ (text : List ℕ). product_in office class (decode text)) texts

-- the products that a reader of the texts finds, for the settings' office and the office's class
abbrev pub products_read : State → List Product
products_read s = products_in s.settings.office s.class (texts_of s)

-- A reader of the texts alone: each text decodes and is one product, so that they are parted again when they are written one after another; every life is lawful; the numbers of each hazard and year are 1, 2, .., without gaps; and the rows are those of the board.
pub record ReadsAsTheBoard (s : State) : Type 0 where
  pub whole : All (λ (text : List ℕ). IsOk (decode text)) (texts_of s)
  pub apart : All IsOneProduct (texts_of s)
  pub lives : (e : Event) (z : Place) → IsLawfulLife (products_read s) e z
  pub gapless : IsGapless (opened_of (products_read s))
  pub rows : rows_of (products_read s) ≡ s.rows

-- the same, where as many numbers of each hazard and year are opened as the counts have it
pub record Agrees (s : State) (counts : List Count) : Type 0 where
  pub reads : ReadsAsTheBoard s
  pub numbers : (h : Hazard) (year : ℕ) → numbers_of h year (opened_of (products_read s)) ≡ counted_from 1 (count_of counts h year)
