-- The products of a stream, line by line, and what a feed keeps of it.
use Rattle.std.specs.Prelude.{◌≡◌, ◌==◌, ◌&&◌, ◌≤◌, ◌<◌, ℕ, Bool, true, false, List, [], ◌∷◌, ◌++◌, length, map, drop, Option, Some, None, is_some}
use Rattle.std.specs.List.{list_any, concat, slice_range}
use Rattle.hazard_types.specs.declared.line.Span.{Span}
use Rattle.product_frame.specs.LineRules.{are_ended}
use Rattle.product_frame.specs.Parts.{heading_of}
use Rattle.product_frame.specs.Splitting.{spans_of}
use Rattle.product_frame.specs.Text.{line_of}

-- the products that a text is split into
abbrev pub texts_of : List ℕ → List (List ℕ)
texts_of bytes = map (λ (s : Span). slice_range bytes s.from s.to) (spans_of bytes)

-- what stands before the first heading line, and the products
pub record Parts : Type 0 where
  pub lead : List ℕ
  pub texts : List (List ℕ)

-- a byte in front, with which a heading line begins, or none
abbrev pub onto : Bool → ℕ → Parts → Parts
onto true c p = record { lead = []; texts = (c ∷ p.lead) ∷ p.texts }
onto false c p = record { lead = c ∷ p.lead; texts = p.texts }

-- the first line is a heading line
abbrev pub has_heading : List ℕ → Bool
has_heading bytes = is_some (heading_of (line_of bytes))

-- the parts of a text, at whose front a line begins, or none
abbrev pub part : Bool → List ℕ → Parts
part begins [] = record { lead = []; texts = [] }
part begins (c ∷ bytes) = onto (begins && has_heading (c ∷ bytes)) c (part (c == 10) bytes)

-- the same as the products that it is split into
abbrev pub products_in : List ℕ → List (List ℕ)
products_in bytes = (part true bytes).texts

-- no line ends in these bytes
abbrev pub IsQuiet : List ℕ → Type 0
IsQuiet bytes = list_any (λ c. c == 10) bytes ≡ false

-- whole lines, none of which is a heading line
pub record IsPlain (bytes : List ℕ) : Type 0 where
  pub ended : are_ended bytes ≡ true
  pub none : part true bytes ≡ record { lead = bytes; texts = [] }

-- whole lines, of which the first is the only heading line
pub record IsHeaded (bytes : List ℕ) : Type 0 where
  pub ended : are_ended bytes ≡ true
  pub one : part true bytes ≡ record { lead = []; texts = bytes ∷ [] }

-- What a feed has kept of a stream, and whether the stream's end was marked.
pub record Fed : Type 0 where
  pub rest : List ℕ
  pub ended : Bool

-- the products to come are the same, whatever is to come of the stream
abbrev pub Keeps : List ℕ → List ℕ → Type 0
Keeps old new = (more : List ℕ) → products_in (old ++ more) ≡ products_in (new ++ more)

-- the product comes first, whatever is to come of the stream, and the others are those to come
abbrev pub ComesFirst : List ℕ → List ℕ → List ℕ → Type 0
ComesFirst old text new = (more : List ℕ) → products_in (old ++ more) ≡ text ∷ products_in (new ++ more)

-- A text is whole lines, and behind them one that has not ended.
pub record Split (text : List ℕ) : Type 0 where
  pub lines : List ℕ
  pub line : List ℕ
  pub parts : text ≡ lines ++ line
  pub whole : are_ended lines ≡ true
  pub quiet : IsQuiet line

-- The whole lines of a text have two heading lines or more, so that the first product is finished.
pub record IsFinished (rest : List ℕ) : Type 0 where
  pub split : Split rest
  pub two : 2 ≤ length (products_in split.lines)

-- They have one at most, and what is kept is the text from its heading line on, or the line that is not whole.
pub record IsWaiting (rest left : List ℕ) : Type 0 where
  pub split : Split rest
  pub one : length (products_in split.lines) ≤ 1
  pub kept : left ≡ concat (products_in split.lines) ++ split.line

-- a product was given: before the end one that is finished; less is kept then
abbrev pub Gives : Fed → List ℕ → Fed → Type 0
Gives old text new = (old.ended ≡ false → IsFinished old.rest × ComesFirst old.rest text new.rest) × (old.ended ≡ true → products_in old.rest ≡ text ∷ products_in new.rest) × (length new.rest < length old.rest)

-- none was given: before the end none is finished, and at the end nothing is left
abbrev pub GivesNone : Fed → Fed → Type 0
GivesNone old new = (old.ended ≡ false → IsWaiting old.rest new.rest × Keeps old.rest new.rest) × (old.ended ≡ true → (products_in old.rest ≡ []) × (new.rest ≡ []))

abbrev pub Takes : Fed → Option (List ℕ) → Fed → Type 0
Takes old None new = GivesNone old new
Takes old (Some text) new = Gives old text new

-- What is held: whole lines from a heading line on, the only one, or none; then a line that was looked through for its end.
pub record IsHeld (bytes : List ℕ) (from seen looked : ℕ) (headed : Bool) : Type 0 where
  pub from_seen : from ≤ seen
  pub seen_looked : seen ≤ looked
  pub looked_all : looked ≤ length bytes
  pub quiet : IsQuiet (slice_range bytes seen looked)
  pub none : headed ≡ false → from ≡ seen
  pub one : headed ≡ true → IsHeaded (slice_range bytes from seen)

-- what is found among the whole lines from a place on
abbrev pub IsFound : List ℕ → ℕ → ℕ → ℕ → Type 0
IsFound bytes from at end = (from ≤ at) × (at < end) × (end ≤ length bytes) × IsPlain (slice_range bytes from at) × IsHeaded (slice_range bytes at end)

abbrev pub IsNotFound : List ℕ → ℕ → ℕ → Type 0
IsNotFound bytes from at = (from ≤ at) × (at ≤ length bytes) × IsPlain (slice_range bytes from at) × IsQuiet (drop at bytes)
