-- Reports, told product by product.
use Rattle.std.proofs.Common.{◌≡◌, ◌∙◌, ℕ, suc, ◌+◌, List, [], ◌∷◌, ◌++◌, length, map, refl, ap, sym, append_assoc, arith, Result}
use Rattle.std.specs.List.{slice_range}
use Rattle.std.proofs.lemmas.List.{map-append}
use Rattle.event_life.specs.Products.{Product, rows_of}
use Rattle.event_life.specs.Shown.{shown_at}
use Rattle.hazard_types.specs.declared.line.Span.{Span}
use Rattle.product_decoder.specs.Decoded.{decode}
use Rattle.product_decoder.specs.Feeding.{products_in}
use Rattle.product_decoder.specs.ReaderModel.{found_of, gaps_found}
use Rattle.product_decoder.specs.declared.types.Decoded.{Decoded}
use Rattle.product_decoder.proofs.Dividing.{products_told}
use Rattle.product_frame.specs.Splitting.{spans_of}
use Rattle.product_frame.specs.declared.frame.FrameFault.{FrameFault}
use Rattle.program_ends.specs.Ends.{Begins}
use Rattle.archive_report.specs.declared.tally.Tally.{Tally}
use Rattle.archive_report.specs.declared.words.Asked.{Asked}
use Rattle.archive_report.specs.Pieces.{IsTallied, count_listed, rest_text}
use Rattle.archive_report.specs.Report.{read_at, readings_of, taken_in, products_of, number_in, numbers_from, faults_in, product_line, product_lines, findings_text, shown_text, listed, last_line, report}
use Rattle.archive_report.specs.Runs.{IsFinishedWritten, IsEarly, lines_told}

abbrev pub Readings : Type 0
Readings = List (Result Decoded FrameFault)

read_each : (bytes : List ℕ) (spans : List Span) → map (read_at bytes) spans ≡ map decode (map (λ (s : Span). slice_range bytes s.from s.to) spans)
read_each bytes [] = refl
read_each bytes (s ∷ spans) = ap (λ (rs : Readings). read_at bytes s ∷ rs) (read_each bytes spans)

-- what is read of an input are its products
pub readings_told : (bytes : List ℕ) → readings_of bytes ≡ map decode (products_in bytes)
readings_told bytes = read_each bytes (spans_of bytes) ∙ ap (λ (texts : List (List ℕ)). map decode texts) (products_told bytes)

-- one list of products behind another

next_number : (k n : ℕ) → k + 1 + n ≡ k + suc n
next_number k n = omega arith

pub lines-append : (asked : Asked) (k : ℕ) (xs ys : Readings) → product_lines asked k (xs ++ ys) ≡ product_lines asked k xs ++ product_lines asked (k + length xs) ys
lines-append asked k [] ys = let none : k ≡ k + 0 = omega arith in ap (λ (n : ℕ). product_lines asked n ys) none
lines-append asked k (x ∷ xs) ys =
    ap (λ (text : List ℕ). product_line asked k x ++ text) (lines-append asked (k + 1) xs ys)
    ∙ ap (λ (n : ℕ). product_line asked k x ++ (product_lines asked (k + 1) xs ++ product_lines asked n ys)) (next_number k (length xs))
    ∙ sym (append_assoc (product_line asked k x) (product_lines asked (k + 1) xs) (product_lines asked (k + suc (length xs)) ys))

pub products-append : (asked : Asked) (xs ys : Readings) → products_of asked (xs ++ ys) ≡ products_of asked xs ++ products_of asked ys
products-append asked [] ys = refl
products-append asked (x ∷ xs) ys =
    ap (λ (ps : List Product). taken_in asked x ++ ps) (products-append asked xs ys) ∙ sym (append_assoc (taken_in asked x) (products_of asked xs) (products_of asked ys))

pub numbers-append : (k : ℕ) (xs ys : Readings) → numbers_from k (xs ++ ys) ≡ numbers_from k xs ++ numbers_from (k + length xs) ys
numbers-append k [] ys = let none : k ≡ k + 0 = omega arith in ap (λ (n : ℕ). numbers_from n ys) none
numbers-append k (x ∷ xs) ys =
    ap (λ (ns : List ℕ). number_in k x ++ ns) (numbers-append (k + 1) xs ys)
    ∙ ap (λ (n : ℕ). number_in k x ++ (numbers_from (k + 1) xs ++ numbers_from n ys)) (next_number k (length xs))
    ∙ sym (append_assoc (number_in k x) (numbers_from (k + 1) xs) (numbers_from (k + suc (length xs)) ys))

pub faults-append : (xs ys : Readings) → faults_in (xs ++ ys) ≡ faults_in xs + faults_in ys
faults-append [] ys = omega arith
faults-append (x ∷ xs) ys = let ih = faults-append xs ys in omega (arith, ih)

-- the report, behind the lines of its products
abbrev behind : Asked → List ℕ → List ℕ
behind asked bytes =
    findings_text (numbers_from 1 (readings_of bytes)) (products_of asked (readings_of bytes))
    ++ (shown_text asked.minute (shown_at asked.minute (rows_of (products_of asked (readings_of bytes)))) ++ last_line (listed asked bytes))

report_is : (asked : Asked) (bytes : List ℕ) → report asked bytes ≡ product_lines asked 1 (readings_of bytes) ++ behind asked bytes
unfolding report
report_is asked bytes = refl

-- the lines of products that come first begin the report
pub first_begins : (asked : Asked) (bytes : List ℕ) (texts more : List (List ℕ)) → products_in bytes ≡ texts ++ more → Begins (lines_told asked texts) (report asked bytes)
first_begins asked bytes texts more is =
    let first : Readings = map decode texts in
    let later : Readings = map decode more in
    let readings : readings_of bytes ≡ first ++ later = readings_told bytes ∙ ap (λ (all : List (List ℕ)). map decode all) is ∙ map-append decode texts more in
    let rest = product_lines asked (1 + length first) later in (
      rest ++ behind asked bytes,
      report_is asked bytes
          ∙ ap (λ (rs : Readings). product_lines asked 1 rs ++ behind asked bytes) readings
          ∙ ap (λ (text : List ℕ). text ++ behind asked bytes) (lines-append asked 1 first later)
          ∙ append_assoc (lines_told asked texts) rest (behind asked bytes),
    )

pub first_early : (asked : Asked) (read rest : List ℕ) (texts : List (List ℕ)) → ((more : List ℕ) → products_in (read ++ more) ≡ texts ++ products_in (rest ++ more)) → IsEarly asked read (lines_told asked texts)
first_early asked read rest texts first more = first_begins asked (read ++ more) texts (products_in (rest ++ more)) (first more)

begins_alike : (a b text : List ℕ) → a ≡ b → Begins b text → Begins a text
begins_alike a b text is begins = (begins.0, begins.1 ∙ ap (λ (t : List ℕ). t ++ begins.0) (sym is))

pub told_early : (asked : Asked) (read told : List ℕ) → IsFinishedWritten asked read told → IsEarly asked read told
told_early asked read told h more =
    begins_alike told (lines_told asked h.0) (report asked (read ++ more)) h.2 (first_early asked read h.1.rest h.0 h.1.first more)

-- a front of each input's report is one of each input's that begins with more
pub early_longer : (asked : Asked) (read more front : List ℕ) → IsEarly asked read front → IsEarly asked (read ++ more) front
early_longer asked read more front early others =
    let begins = early (more ++ others) in
    (begins.0, ap (report asked) (append_assoc read more others) ∙ begins.1)

pub early_alike : (asked : Asked) (read front other : List ℕ) → other ≡ front → IsEarly asked read front → IsEarly asked read other
early_alike asked read front other is early more = begins_alike other front (report asked (read ++ more)) is (early more)

-- all products were told, and what they come to
module _ (asked : Asked) (read : List ℕ) (tally : Tally) (tallied : IsTallied asked (map decode (products_in read)) tally) where
  products_are : tally.reader.products ≡ products_of asked (readings_of read)
  products_are = tallied.products ∙ ap (products_of asked) (sym (readings_told read))

  numbers_are : tally.numbers ≡ numbers_from 1 (readings_of read)
  numbers_are = tallied.numbers ∙ ap (numbers_from 1) (sym (readings_told read))

  pub listed_told : count_listed tally ≡ listed asked read
  unfolding listed
  listed_told =
      let products = products_are in
      let faults = tallied.faults ∙ ap faults_in (sym (readings_told read)) in
      λ i. faults i + length (found_of (products i)) + length (gaps_found (products i))

  pub report_told : lines_told asked (products_in read) ++ rest_text asked tally ≡ report asked read
  report_told =
      let readings = sym (readings_told read) in
      let products = products_are in
      let numbers = numbers_are in
      let all = listed_told in
      (λ i. product_lines asked 1 (readings i) ++ (findings_text (numbers i) (products i) ++ (shown_text asked.minute (shown_at asked.minute (rows_of (products i))) ++ last_line (all i))))
      ∙ sym (report_is asked read)
