-- What a reader of an office's products of a class has taken, and what it finds in them.
use Rattle.std.specs.Prelude.{◌&&◌, ◌+◌, ℕ, Bool, List, [], ◌∷◌, ◌++◌, map, filter, min, Option, Some, None}
use Rattle.std.specs.Str.{bytes_eq}
use Rattle.hazard_types.specs.ZoneLines.{ZoneLine}
use Rattle.hazard_types.specs.contracts.codes.ClassPartialEq.TheImpl as classes
use Rattle.hazard_types.specs.declared.codes.Class.{Class}
use Rattle.hazard_types.specs.declared.line.Line.{Line}
use Rattle.hazard_types.specs.declared.line.Row.{Row}
use Rattle.hazard_types.specs.declared.line.Vtec.{Vtec}
use Rattle.event_life.specs.declared.life.Breach.{Breach}
use Rattle.event_life.specs.Lives.{judged_product, track_of}
use Rattle.event_life.specs.Openings.{gaps_of}
use Rattle.event_life.specs.declared.openings.Gap.{Gap}
use Rattle.event_life.specs.Products.{Product, rows_with, rows_of}
use Rattle.product_decoder.specs.declared.types.Decoded.{Decoded}
use Rattle.product_decoder.specs.declared.types.Found.{Found}
use Rattle.product_decoder.specs.declared.types.GapFound.{GapFound}
use Rattle.product_decoder.specs.declared.types.Track.{Track}
use Rattle.product_decoder.specs.declared.types.ZonePair.{ZonePair}
use Rattle.product_decoder.specs.Lives.{Living, living_in}

-- a reader's office and class, and the products that it took
pub record Reading : Type 0 where
  pub office : List ℕ
  pub class : Class
  pub products : List Product

-- a P-VTEC line of the office and class
abbrev pub is_vtec_by : List ℕ → Class → Vtec → Bool
is_vtec_by office class vtec = bytes_eq vtec.office office && classes.eq-value.it vtec.class class

-- the line is of the office and class
abbrev pub is_by : List ℕ → Class → ZonePair → Bool
is_by office class pair = bytes_eq pair.vtec.office office && classes.eq-value.it pair.vtec.class class

abbrev pub zone_line_of_pair : ZonePair → ZoneLine
zone_line_of_pair pair = record { zone = pair.zone; vtec = pair.vtec; flood = pair.flood }

-- those of the lines that are of the office and class, in their order
abbrev pub said_by : List ℕ → Class → List ZonePair → List ZoneLine
said_by office class pairs = map zone_line_of_pair (filter (is_by office class) pairs)

-- a product, as the reader of an office and class sees it
abbrev pub product_of : List ℕ → Class → Decoded → Product
product_of office class d = record { issue = d.issue; said = said_by office class d.pairs }

-- Lives: one for each row, by event, then zone.

abbrev pub life_in : List Product → Living → Track
life_in products l = record { event = l.event; zone = l.zone; steps = track_of products l.event l.zone }

unfoldable pub lives_of : List Product → List Track
lives_of products = map (life_in products) (living_in (rows_of products))

-- Lines in breach: the products count from 1, and within one the lines stand in the order of the text.

abbrev pub found_at : ℕ → Line → Option Breach → List Found
found_at product line None = []
found_at product line (Some breach) = record { product = product; event = line.event; zone = line.zone; breach = breach } ∷ []

abbrev pub found_in : ℕ → List (Line × Option Breach) → List Found
found_in product [] = []
found_in product (l ∷ ls) = found_at product l.0 l.1 ++ found_in product ls

-- among the lines of products, of which the first has this count, over the rows before it
abbrev pub found_from : List Row → ℕ → List Product → List Found
found_from rows count [] = []
found_from rows count (p ∷ products) = found_in count (judged_product rows p) ++ found_from (rows_with rows p) (count + 1) products

unfoldable pub found_of : List Product → List Found
found_of products = found_from [] 1 products

-- Gaps. Numbers of texts have four digits, so the wanted number of a text's gap is below the bound.

abbrev pub gap_found : Gap → GapFound
gap_found g = record { hazard = g.event.hazard; year = g.event.year; wanted = min g.wanted 65535; found = g.event.etn }

unfoldable pub gaps_found : List Product → List GapFound
gaps_found products = map gap_found (gaps_of products)
