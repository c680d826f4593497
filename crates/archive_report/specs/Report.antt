-- The report of an input: its products, the lives that they tell, breaches and gaps, and the rows that are shown.
use Rattle.std.specs.Prelude.{ℕ, ◌+◌, ◌-◌, List, [], ◌∷◌, ◌++◌, length, map, flat_map, slice_index, slice_range, codes, decimal, Result, Ok, Err}
use Rattle.hazard_types.specs.Calendar.{stamp_of}
use Rattle.hazard_types.specs.Hazards.{hazard_code}
use Rattle.hazard_types.specs.declared.line.Row.{Row}
use Rattle.hazard_types.specs.declared.line.Span.{Span}
use Rattle.product_frame.specs.Splitting.{spans_of}
use Rattle.product_frame.specs.declared.frame.FrameFault.{FrameFault}
use Rattle.event_life.specs.Products.{Product, rows_of}
use Rattle.event_life.specs.Shown.{shown_at}
use Rattle.product_decoder.specs.Decoded.{decode}
use Rattle.product_decoder.specs.ReaderModel.{said_by, product_of, lives_of, found_of, gaps_found}
use Rattle.product_decoder.specs.declared.types.Decoded.{Decoded}
use Rattle.product_decoder.specs.declared.types.Found.{Found}
use Rattle.product_decoder.specs.declared.types.GapFound.{GapFound}
use Rattle.product_decoder.specs.declared.types.Track.{Track}
use Rattle.archive_report.specs.declared.words.Asked.{Asked}
use Rattle.board_text.specs.Rows.{board_text}
use Rattle.hazard_types.specs.Digits.{wide}
use Rattle.archive_report.specs.Texts.{where_text, steps_text, breach_name, fault_text}

-- What is read of each product: what it says, or its first fault.

abbrev pub read_at : List ℕ → Span → Result Decoded FrameFault
read_at bytes s = decode (slice_range bytes s.from s.to)

abbrev pub readings_of : List ℕ → List (Result Decoded FrameFault)
readings_of bytes = map (read_at bytes) (spans_of bytes)

-- those that have no fault, as the reader of the office and class sees them

abbrev pub taken_in : Asked → Result Decoded FrameFault → List Product
taken_in asked (Ok d) = product_of asked.office asked.class d ∷ []
taken_in asked (Err f) = []

abbrev pub products_of : Asked → List (Result Decoded FrameFault) → List Product
products_of asked [] = []
products_of asked (r ∷ readings) = taken_in asked r ++ products_of asked readings

-- the number of each of them among all products, of which the first has this one

abbrev pub number_in : ℕ → Result Decoded FrameFault → List ℕ
number_in k (Ok d) = k ∷ []
number_in k (Err f) = []

abbrev pub numbers_from : ℕ → List (Result Decoded FrameFault) → List ℕ
numbers_from k [] = []
numbers_from k (r ∷ readings) = number_in k r ++ numbers_from (k + 1) readings

-- how many products have a fault

abbrev pub fault_in : Result Decoded FrameFault → ℕ
fault_in (Ok d) = 0
fault_in (Err f) = 1

abbrev pub faults_in : List (Result Decoded FrameFault) → ℕ
faults_in [] = 0
faults_in (r ∷ readings) = fault_in r + faults_in readings

-- The lines. Products are numbered from 1, those with a fault too.

abbrev pub title : ℕ → List ℕ
title k = codes "product " ++ (decimal k ++ codes " ")

-- a minute and a count, which end a line
abbrev pub counted_text : ℕ → ℕ → List ℕ
counted_text minute n = stamp_of minute ++ (codes " " ++ (decimal n ++ codes "\n"))

-- a product's identifier, its issue minute, and how many lines of the office and class it has, counted for each zone
abbrev pub taken_line : Asked → ℕ → Decoded → List ℕ
taken_line asked k d = title k ++ (d.identifier ++ (codes " " ++ counted_text d.issue (length (said_by asked.office asked.class d.pairs))))

abbrev pub faulty_line : ℕ → FrameFault → List ℕ
faulty_line k f = title k ++ (codes "fault " ++ (fault_text f ++ codes "\n"))

abbrev pub product_line : Asked → ℕ → Result Decoded FrameFault → List ℕ
product_line asked k (Ok d) = taken_line asked k d
product_line asked k (Err f) = faulty_line k f

abbrev pub product_lines : Asked → ℕ → List (Result Decoded FrameFault) → List ℕ
product_lines asked k [] = []
product_lines asked k (r ∷ readings) = product_line asked k r ++ product_lines asked (k + 1) readings

-- an event in a zone and its lawful lines
abbrev pub life_line : Track → List ℕ
life_line t = codes "life " ++ (where_text t.event t.zone ++ (steps_text t.steps ++ codes "\n"))

-- the lives of an event
abbrev pub lives_text : List Track → List ℕ
lives_text lives = flat_map life_line lives

-- a line in breach, where the products that were taken have these numbers
abbrev pub breach_line : List ℕ → Found → List ℕ
breach_line numbers f = codes "breach " ++ (decimal (slice_index numbers (f.product - 1)) ++ (codes " " ++ (where_text f.event f.zone ++ (codes " " ++ (breach_name f.breach ++ codes "\n")))))

-- a number behind a blank
abbrev pub spaced : ℕ → List ℕ
spaced n = codes " " ++ wide n

-- a number that was opened where another was wanted
abbrev pub gap_line : GapFound → List ℕ
gap_line g = codes "gap " ++ (hazard_code g.hazard ++ (spaced g.year ++ (spaced g.wanted ++ (spaced g.found ++ codes "\n"))))

-- what stands before the rows that are shown at a minute: it, and their count
abbrev pub shown_front : ℕ → ℕ → List ℕ
shown_front minute n = codes "shown " ++ counted_text minute n

-- the rows that are shown at a minute
abbrev pub shown_text : ℕ → List Row → List ℕ
shown_text minute rows = shown_front minute (length rows) ++ board_text rows

-- lives, breaches and gaps, where the products that were taken have these numbers
abbrev pub findings_text : List ℕ → List Product → List ℕ
findings_text numbers products = flat_map life_line (lives_of products) ++ (flat_map (breach_line numbers) (found_of products) ++ flat_map gap_line (gaps_found products))

-- how many faults, breaches and gaps are listed
unfoldable pub listed : Asked → List ℕ → ℕ
listed asked bytes =
    let products = products_of asked (readings_of bytes) in
    faults_in (readings_of bytes) + length (found_of products) + length (gaps_found products)

abbrev pub last_line : ℕ → List ℕ
last_line n = codes "breaches " ++ (decimal n ++ codes "\n")

-- products, lives, breaches, gaps, rows, and the count of what is listed
unfoldable pub report : Asked → List ℕ → List ℕ
report asked bytes =
    let readings = readings_of bytes in
    let products = products_of asked readings in
    product_lines asked 1 readings
    ++ (findings_text (numbers_from 1 readings) products
    ++ (shown_text asked.minute (shown_at asked.minute (rows_of products))
    ++ last_line (listed asked bytes)))
