-- What is asked of the products of a stream, and answered.
use Rattle.std.specs.Prelude.{◌≡◌, ◌⊎◌, ◌==◌, ℕ, List, [], ◌∷◌, ◌++◌, length, map, flat_map, nat_lt, Option, Some, None, if◌then◌else◌}
use Rattle.hazard_types.specs.Characters.{is_office}
use Rattle.hazard_types.specs.Codes.{value_for_code}
use Rattle.hazard_types.specs.Tables.{class_rows}
use Rattle.hazard_types.specs.declared.codes.Class.{Class}
use Rattle.event_life.specs.Products.{Product, rows_of}
use Rattle.event_life.specs.Shown.{shown_at}
use Rattle.product_decoder.specs.ReaderModel.{lives_of, found_of, gaps_found}
use Rattle.warn_codes_c.specs.declared.asking.AskedFields.{AskedFields}
use Rattle.warn_codes_c.specs.declared.asking.Question.{Question}
use Rattle.warn_codes_c.specs.declared.asking.Question.TheVariants as question
use Rattle.warn_codes_c.specs.declared.rows.RowFields.{RowFields}
use Rattle.warn_codes_c.specs.Archive.{readings_of, products_of, numbers_from}
use Rattle.warn_codes_c.specs.Handing.{fits, handed}
use Rattle.warn_codes_c.specs.Rows.{steps_in, breach_row, gap_row, live_row}

-- the question of a number
abbrev pub question_of : ℕ → ℕ → Option Question
question_of n minute =
    if n == 1 then Some question.Lives
    else (if n == 2 then Some question.Breaches
    else (if n == 3 then Some question.Gaps
    else (if n == 4 then (if nat_lt minute 52596000 then Some (question.Shown minute) else None)
    else (if n == 5 then (if nat_lt minute 52596000 then Some (question.All minute) else None) else None))))

-- the rows of what a reader of these products finds, which have these numbers among all

abbrev pub life_rows : List Product → List RowFields
life_rows products = flat_map steps_in (lives_of products)

abbrev pub breach_rows : List ℕ → List Product → List RowFields
breach_rows numbers products = map (breach_row numbers) (found_of products)

abbrev pub gap_rows : List Product → List RowFields
gap_rows products = map gap_row (gaps_found products)

abbrev pub shown_rows : ℕ → List Product → List RowFields
shown_rows minute products = map live_row (shown_at minute (rows_of products))

abbrev pub all_rows : ℕ → List ℕ → List Product → List RowFields
all_rows minute numbers products = life_rows products ++ (breach_rows numbers products ++ (gap_rows products ++ shown_rows minute products))

abbrev pub rows_for : Question → List ℕ → List Product → List RowFields
rows_for question.Lives numbers products = life_rows products
rows_for question.Breaches numbers products = breach_rows numbers products
rows_for question.Gaps numbers products = gap_rows products
rows_for (question.Shown minute) numbers products = shown_rows minute products
rows_for (question.All minute) numbers products = all_rows minute numbers products

-- the office, if it is one
abbrev pub office_at : List ℕ → Option (List ℕ)
office_at text = if is_office text then Some text else None

abbrev pub answer_by : Option Class → Option (List ℕ) → Option Question → List ℕ → Option (List RowFields)
answer_by None o q stream = None
answer_by (Some c) None q stream = None
answer_by (Some c) (Some o) None stream = None
answer_by (Some c) (Some o) (Some q) stream = Some (rows_for q (numbers_from 1 (readings_of stream)) (products_of o c (readings_of stream)))

-- the rows that answer a question about a stream, where class, office and question are such
abbrev pub answer : AskedFields → List ℕ → Option (List RowFields)
answer asked stream = answer_by (value_for_code class_rows (asked.class ∷ [])) (office_at asked.office) (question_of asked.question asked.minute) stream

-- what becomes of the buffer and the count
abbrev pub Tells : Option (List RowFields) → ℕ → List RowFields → List RowFields → ℕ → ℕ → Type 0
Tells (Some rows) status old new needed needed' = (status ≡ (if fits rows old then 0 else 2)) × (new ≡ handed rows old) × (needed' ≡ length rows)
Tells None status old new needed needed' = (status ≡ 3) × (new ≡ old) × (needed' ≡ needed)

-- it is told, unless memory ran out, which changes nothing
abbrev pub Answers : Option (List RowFields) → ℕ → List RowFields → List RowFields → ℕ → ℕ → Type 0
Answers rows status old new needed needed' = Tells rows status old new needed needed' ⊎ ((status ≡ 1) × (new ≡ old) × (needed' ≡ needed))
