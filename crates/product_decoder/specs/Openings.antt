-- What products open, and the lawful lines of the last of them.
use Rattle.std.specs.Prelude.{ℕ, List, [], ◌∷◌, ◌++◌, if◌then◌else◌}
use Rattle.hazard_types.specs.declared.line.Line.{Line}
use Rattle.hazard_types.specs.declared.line.Row.{Row}
use Rattle.event_life.specs.Lives.{judged_product, opens}
use Rattle.event_life.specs.Products.{Product, lawful_of, rows_with}
use Rattle.event_life.specs.Table.{opened_period}
use Rattle.product_decoder.specs.Runs.{Taken}
use Rattle.product_decoder.specs.declared.types.Opening.{Opening}

-- what a line opens in a product that was issued at this minute
abbrev pub opening_of : ℕ → Line → Opening
opening_of t line = record { event = line.event; zone = line.zone; period = opened_period line t; issue = t }

-- what those of the lines open that are NEW, EXA or EXB, in their order
abbrev pub openings_in : ℕ → List Line → List Opening
openings_in t [] = []
openings_in t (line ∷ lines) = if opens line.action then opening_of t line ∷ openings_in t lines else openings_in t lines

-- the lawful lines of a product that touch a life, over the rows before it
abbrev pub lawful_lines : List Row → Product → List Line
lawful_lines rows p = lawful_of (judged_product rows p)

-- what they open
abbrev pub openings_with : List Row → Product → List Opening
openings_with rows p = openings_in p.issue (lawful_lines rows p)

-- what products open, product by product, over the rows before the first
abbrev pub openings_from : List Row → List Product → List Opening
openings_from rows [] = []
openings_from rows (p ∷ products) = openings_with rows p ++ openings_from (rows_with rows p) products

abbrev pub openings_of : List Product → List Opening
openings_of products = openings_from [] products

-- the lawful lines of the last of the products, over the rows before the first; where there are none, these lines
abbrev pub lawful_from : List Row → List Line → List Product → List Line
lawful_from rows last [] = last
lawful_from rows last (p ∷ products) = lawful_from (rows_with rows p) (lawful_lines rows p) products

abbrev pub last_lawful : List Product → List Line
last_lawful products = lawful_from [] [] products

-- what the last of the products opens, over the rows before the first; where there are none, these openings
abbrev pub last_from : List Row → List Opening → List Product → List Opening
last_from rows last [] = last
last_from rows last (p ∷ products) = last_from (rows_with rows p) (openings_with rows p) products

abbrev pub last_openings : List Product → List Opening
last_openings products = last_from [] [] products

-- the same, read off what was taken

abbrev pub lawful_taken : List Line → List Taken → List Line
lawful_taken last [] = last
lawful_taken last (t ∷ taken) = lawful_taken (lawful_of t.judged) taken

abbrev pub openings_taken : List Opening → List Taken → List Opening
openings_taken last [] = last
openings_taken last (t ∷ taken) = openings_taken (openings_in t.issue (lawful_of t.judged)) taken
