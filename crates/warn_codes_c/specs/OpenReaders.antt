-- Readers that stay open between calls.
use Rattle.std.specs.Prelude.{◌≡◌, ◌⊎◌, ℕ, false, List, [], Option, Some, None, IsSomeAnd}
use Rattle.hazard_types.specs.declared.codes.Class.{Class}
use Rattle.warn_codes_c.specs.declared.archive.Archive.{Archive}
use Rattle.warn_codes_c.specs.declared.asking.Question.{Question}
use Rattle.warn_codes_c.specs.declared.handle.ReaderFields.{ReaderFields}
use Rattle.warn_codes_c.specs.declared.rows.RowFields.{RowFields}
use Rattle.warn_codes_c.specs.Asking.{rows_for}
use Rattle.warn_codes_c.specs.Kept.{taken_by}

-- what an open reader has taken
abbrev pub taken_in : ReaderFields → Option Archive
taken_in reader = taken_by reader.is_open reader.handle.value

-- nothing is taken yet of an office and class
pub record IsFresh (office : List ℕ) (class : Class) (a : Archive) : Type 0 where
  pub of_office : a.reader.office ≡ office
  pub of_class : a.reader.class ≡ class
  pub products : a.reader.products ≡ []
  pub numbers : a.numbers ≡ []
  pub count : a.count ≡ 0
  pub rest : a.feed.rest ≡ []
  pub going : a.feed.ended ≡ false

-- a reader that was closed is opened, unless memory ran out, which leaves it closed; one that is open stays as it was
abbrev pub Opens : Option Archive → Option Class → Option (List ℕ) → ℕ → Option Archive → Type 0
Opens None (Some class) (Some office) status new = ((status ≡ 0) × IsSomeAnd new (IsFresh office class)) ⊎ ((status ≡ 1) × (new ≡ None))
Opens None (Some class) None status new = (status ≡ 3) × (new ≡ None)
Opens None None office status new = (status ≡ 3) × (new ≡ None)
Opens (Some a) class office status new = (status ≡ 3) × (new ≡ Some a)

-- an open reader goes on so, unless memory ran out, which closes it
abbrev pub GoesOn : (Archive → Archive → Type 0) → Option Archive → ℕ → Option Archive → Type 0
GoesOn To None status new = (status ≡ 3) × (new ≡ None)
GoesOn To (Some a) status new = ((status ≡ 0) × IsSomeAnd new (To a)) ⊎ ((status ≡ 1) × (new ≡ None))

-- the rows that answer a question about what an open reader has taken
abbrev pub told_by : Option Archive → Option Question → Option (List RowFields)
told_by None q = None
told_by (Some a) None = None
told_by (Some a) (Some q) = Some (rows_for q a.numbers a.reader.products)
