-- The summary of a drill.
use Rattle.std.specs.Prelude.{ℕ, ◌+◌, List, [], ◌∷◌, ◌++◌, length, Result, Ok, Err, codes, decimal}
use Rattle.hazard_types.specs.declared.codes.Class.TheVariants as class
use Rattle.event_life.specs.Products.{Product}
use Rattle.event_life.specs.Shown.{shown_at}
use Rattle.product_decoder.specs.Decoded.{decode}
use Rattle.product_decoder.specs.ReaderModel.{found_of, gaps_found}
use Rattle.product_decoder.specs.declared.types.Decoded.{Decoded}
use Rattle.product_frame.specs.declared.frame.FrameFault.{FrameFault}
use Rattle.office_core.specs.Agreement.{products_in, texts_of}
use Rattle.desk_drill.specs.Office.{Drilled, drill_office}

-- 1 for a text that does not decode
abbrev pub fault_of : Result Decoded FrameFault → ℕ
fault_of (Ok d) = 0
fault_of (Err fault) = 1

-- how many of the texts do not decode
abbrev pub faults_in : List (List ℕ) → ℕ
faults_in [] = 0
faults_in (text ∷ texts) = fault_of (decode text) + faults_in texts

-- what a reader finds in products: the lines in breach, and the gaps
abbrev pub findings_in : List Product → ℕ
findings_in products = length (found_of products) + length (gaps_found products)

-- all that a reader of the office and class, who has the texts alone, finds in them
abbrev pub breaches_in : List (List ℕ) → ℕ
breaches_in texts = faults_in texts + findings_in (products_in drill_office class.O texts)

-- a name, a number and LF
abbrev pub count_line : List ℕ → ℕ → List ℕ
count_line name n = name ++ codes " " ++ decimal n ++ codes "\n"

-- how many rows are shown at the minute of the last entry; before the first entry there is no row
abbrev pub shown_last : Drilled → ℕ
shown_last d = length (shown_at d.state.last d.state.rows)

-- the lines on the requests
abbrev pub request_lines : Drilled → List ℕ
request_lines d = count_line (codes "accepted") d.accepted ++ count_line (codes "refused") d.refused ++ count_line (codes "products") (length d.state.products)

-- the lines on what they made
abbrev pub event_lines : Drilled → List ℕ
event_lines d = count_line (codes "events") (length d.opened) ++ count_line (codes "shown") (shown_last d) ++ count_line (codes "breaches") (breaches_in (texts_of d.state))

-- the six lines
unfoldable pub summary : Drilled → List ℕ
summary d = request_lines d ++ event_lines d
