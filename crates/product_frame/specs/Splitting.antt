-- The products of a text: one for each heading line.
use Rattle.std.specs.Prelude.{◌≡◌, ◌+◌, ℕ, true, List, [], ◌∷◌, ◌++◌, length, drop, if◌then◌else◌, is_some}
use Rattle.std.specs.List.{slice_range}
use Rattle.hazard_types.specs.declared.line.Span.{Span}
use Rattle.product_frame.specs.Text.{starts}
use Rattle.product_frame.specs.Parts.{heading_of}
use Rattle.product_frame.specs.Frames.{line_at}
use Rattle.product_frame.specs.LineRules.{are_ended}

-- those of these places where a heading line begins
abbrev pub headings_in : List ℕ → List ℕ → List ℕ
headings_in bytes [] = []
headings_in bytes (s ∷ places) = if is_some (heading_of (line_at bytes s)) then s ∷ headings_in bytes places else headings_in bytes places

-- the first place, or the end
abbrev pub first_or : ℕ → List ℕ → ℕ
first_or end [] = end
first_or end (s ∷ places) = s

-- from each place up to the next, from the last up to the end
abbrev pub spans_to : ℕ → List ℕ → List Span
spans_to end [] = []
spans_to end (s ∷ places) = record { from = s; to = first_or end places } ∷ spans_to end places

-- one span for each heading line of a text
unfoldable pub spans_of : List ℕ → List Span
spans_of bytes = spans_to (length bytes) (headings_in bytes (starts bytes))

-- the bytes of spans, laid end to end
abbrev pub laid : List ℕ → List Span → List ℕ
laid bytes [] = []
laid bytes (s ∷ spans) = slice_range bytes s.from s.to ++ laid bytes spans

-- from the first of these places on, if there is one
abbrev pub from_first : List ℕ → List ℕ → List ℕ
from_first bytes [] = []
from_first bytes (s ∷ places) = drop s bytes

-- the one heading line of a text is its first line, and each line has its end
pub record IsOneProduct (text : List ℕ) : Type 0 where
  pub heading : headings_in text (starts text) ≡ 0 ∷ []
  pub ended : are_ended text ≡ true

-- where texts stand that are laid end to end from a place on
abbrev pub spans_from : ℕ → List (List ℕ) → List Span
spans_from at [] = []
spans_from at (text ∷ texts) = record { from = at; to = at + length text } ∷ spans_from (at + length text) texts
