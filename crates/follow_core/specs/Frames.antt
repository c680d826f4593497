-- The products that a reader of an office and class finds in the frames that were heard.
use Rattle.std.specs.Prelude.{ℕ, List, map}
use Rattle.std.specs.declared.snapshot.Snapshot.{Snapshot}
use Rattle.hazard_types.specs.declared.codes.Class.{Class}
use Rattle.event_life.specs.Products.{Product}
use Rattle.product_decoder.specs.Decoded.{decoded_of}
use Rattle.product_decoder.specs.ReaderModel.{product_of}
use Rattle.product_frame.specs.declared.frame.Frame.{Frame}

abbrev pub product_taken : List ℕ → Class → Snapshot Frame → Product
product_taken office class heard = product_of office class (decoded_of heard.value)

abbrev pub products_taken : List ℕ → Class → List (Snapshot Frame) → List Product
products_taken office class heard = map (product_taken office class) heard
